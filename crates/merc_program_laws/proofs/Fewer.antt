-- What is good with some variables outside is good with fewer.
use Rattle.std.proofs.Common.{◌≡◌, inl, inr, ℕ, Bool, true, ◌&&◌, List, [], ◌∷◌, Option, Some, None, slice_get}
use Rattle.merc_tree.specs.declared.declarations.ModeDecl.{ModeDecl}
use Rattle.merc_graded_tree.specs.declared.basic.BasicGoal.{BasicGoal}
use Rattle.merc_graded_tree.specs.declared.basic.BasicGoal.TheVariants.{True, Fail, Assign, Test, Build, Split, Arithmetic, Compare, Raise, Call, Wait, Signal}
use Rattle.merc_graded_tree.specs.Nodes.{Node, node, Goal, Basic, Conjunction, Disjunction, Switch, Conditional, Negation, Quantified, Nodes, no_nodes, more_nodes, Arms, no_arms, more_arms, outputs_of}
use Rattle.merc_graded_tree.specs.Variables.{in_goal, in_node, in_nodes}
use Rattle.merc_order.specs.Bound.{Bound, with, among}
use Rattle.merc_order_laws.specs.Bindings.{Variables, ArmBinds}
use Rattle.merc_order_laws.specs.GoodTree.{GoodProcedure, node_ends, DisjunctsBind, ArmsBind, GoodBasic, GoodNode, GoodGoal, GoodNodes, GoodDisjuncts, GoodArms}
use Rattle.merc_order_laws.proofs.Fewer.{Among}
use Rattle.merc_order_laws.proofs.Facts.{or_left, or_right, or_cases}

pub together : (few more a : Variables) → Among few more → Among (with few a) (with more a)
together few more a w v h = elim (or_cases (few v) (a v) h) as (λ _. with more a v ≡ true) [ inl k ↦ or_left (more v) (a v) (w v k) | inr k ↦ or_right (more v) (a v) k ]

owed : (reached : Bool) (few more occurs : Variables) (b : Bound) (outs : List ℕ) (behind : Bound) → Among few more → ArmBinds reached more occurs b outs behind → ArmBinds reached few occurs b outs behind
owed reached few more occurs b outs behind w (inl h) = inl h
owed reached few more occurs b outs behind w (inr h) = inr (λ v i k. h v i (w v k))

call_fewer : (m : Option ModeDecl) (few more : Variables) (b : Bound) (outs args : List ℕ) → Among few more → GoodProcedure more b outs m args → GoodProcedure few b outs m args
call_fewer None few more b outs args w h = h
call_fewer (Some m) few more b outs args w h = (h.0, h.1, h.2, λ v i k. h.3 v i (w v k))

-- Given are the modes of each predicate.
module _ (modes : ℕ → List ModeDecl) where
  basic_fewer : (g : BasicGoal) (few more : Variables) (b : Bound) (outs : List ℕ) → Among few more → GoodBasic modes more b outs g → GoodBasic modes few b outs g
  basic_fewer True few more b outs w h = h
  basic_fewer Fail few more b outs w h = h
  basic_fewer (Assign x y) few more b outs w h = (h.0, h.1, λ v i k. h.2 v i (w v k))
  basic_fewer (Test x y) few more b outs w h = h
  basic_fewer (Build x c ys) few more b outs w h = (h.0, h.1, λ v i k. h.2 v i (w v k))
  basic_fewer (Split x c ys) few more b outs w h = (h.0, h.1, λ v i k. h.2 v i (w v k))
  basic_fewer (Arithmetic op z x y) few more b outs w h = (h.0, h.1, h.2, λ v i k. h.3 v i (w v k))
  basic_fewer (Compare op x y) few more b outs w h = h
  basic_fewer (Raise x) few more b outs w h = h
  basic_fewer (Call p args) few more b outs w h = call_fewer (slice_get (modes p.predicate) p.mode) few more b outs args w h
  basic_fewer (Wait x k) few more b outs w h = h
  basic_fewer (Signal x k) few more b outs w h = h

  disjuncts_bind : (ns : Nodes) (few more whole : Variables) (b : Bound) (outs : List ℕ) → Among few more → DisjunctsBind modes more whole b outs ns → DisjunctsBind modes few whole b outs ns
  disjuncts_bind no_nodes few more whole b outs w h = tt
  disjuncts_bind (more_nodes n ns) few more whole b outs w h = (owed (node_ends modes n) few more whole b outs (with b (among (outputs_of n))) w h.0, disjuncts_bind ns few more whole b outs w h.1)

  arms_bind : (arms : Arms) (few more whole : Variables) (b : Bound) (outs : List ℕ) → Among few more → ArmsBind modes more whole b outs arms → ArmsBind modes few whole b outs arms
  arms_bind no_arms few more whole b outs w h = tt
  arms_bind (more_arms s n arms) few more whole b outs w h = (owed (node_ends modes n) few more whole b outs (with b (among (outputs_of n))) w h.0, arms_bind arms few more whole b outs w h.1)

  mutual
    pub node_fewer : (n : Node) (few more : Variables) (b : Bound) → Among few more → GoodNode modes more b n → GoodNode modes few b n
    node_fewer (node g outs cat span) few more b w h = (h.0, h.1, goal_fewer g few more b outs w h.2)

    goal_fewer : (g : Goal) (few more : Variables) (b : Bound) (outs : List ℕ) → Among few more → GoodGoal modes more b outs g → GoodGoal modes few b outs g
    goal_fewer (Basic g) few more b outs w h = basic_fewer g few more b outs w h
    goal_fewer (Conjunction running ns) few more b outs w h = (nodes_fewer ns few more b w h.0, λ v i k. h.1 v i (w v k))
    goal_fewer (Disjunction ns) few more b outs w h = (disjuncts_fewer ns few more b w h.0, disjuncts_bind ns few more (in_nodes ns) b outs w h.1)
    goal_fewer (Switch x arms) few more b outs w h = (
      h.0,
      arms_fewer arms (with few (among (x ∷ []))) (with more (among (x ∷ []))) b (together few more (among (x ∷ [])) w) h.1,
      arms_bind arms few more (in_goal (Switch x arms)) b outs w h.2,
    )
    goal_fewer (Conditional c t e) few more b outs w h = (
      node_fewer c (with few (with (in_node t) (in_node e))) (with more (with (in_node t) (in_node e))) b (together few more (with (in_node t) (in_node e)) w) h.0,
      (λ v i. h.1 v (together few more (in_node e) w v i)),
      node_fewer t (with few (with (in_node c) (in_node e))) (with more (with (in_node c) (in_node e))) (with b (among (outputs_of c))) (together few more (with (in_node c) (in_node e)) w) h.2,
      owed (node_ends modes c && node_ends modes t) few more (in_goal (Conditional c t e)) b outs (with (with b (among (outputs_of c))) (among (outputs_of t))) w h.3,
      node_fewer e (with few (with (in_node c) (in_node t))) (with more (with (in_node c) (in_node t))) b (together few more (with (in_node c) (in_node t)) w) h.4,
      owed (node_ends modes e) few more (in_goal (Conditional c t e)) b outs (with b (among (outputs_of e))) w h.5,
    )
    goal_fewer (Negation n) few more b outs w h = (node_fewer n few more b w h.0, (λ v i. h.1 v (w v i)), λ v i k. h.2 v i (w v k))
    goal_fewer (Quantified own n) few more b outs w h = (node_fewer n few more b w h.0, λ v i k. h.1 v i (w v k))

    nodes_fewer : (ns : Nodes) (few more : Variables) (b : Bound) → Among few more → GoodNodes modes more b ns → GoodNodes modes few b ns
    nodes_fewer no_nodes few more b w h = tt
    nodes_fewer (more_nodes n ns) few more b w h = (
      node_fewer n (with few (in_nodes ns)) (with more (in_nodes ns)) b (together few more (in_nodes ns) w) h.0,
      nodes_fewer ns (with few (in_node n)) (with more (in_node n)) (with b (among (outputs_of n))) (together few more (in_node n) w) h.1,
    )

    disjuncts_fewer : (ns : Nodes) (few more : Variables) (b : Bound) → Among few more → GoodDisjuncts modes more b ns → GoodDisjuncts modes few b ns
    disjuncts_fewer no_nodes few more b w h = tt
    disjuncts_fewer (more_nodes n ns) few more b w h = (node_fewer n few more b w h.0, disjuncts_fewer ns few more b w h.1)

    arms_fewer : (arms : Arms) (few more : Variables) (b : Bound) → Among few more → GoodArms modes more b arms → GoodArms modes few b arms
    arms_fewer no_arms few more b w h = tt
    arms_fewer (more_arms s n arms) few more b w h = (node_fewer n few more b w h.0, arms_fewer arms few more b w h.1)
