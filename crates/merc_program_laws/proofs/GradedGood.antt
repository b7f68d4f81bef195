-- A good goal is good with its categories, and its switches stay guarded.
use Rattle.std.proofs.Common.{◌≡◌, ℕ, List, [], ◌∷◌, refl, ap, sym, subst, ◌∙◌}
use mathlib.Core.Path.{fun_ext}
use Rattle.merc_tree.specs.Types.{TypeExpr}
use Rattle.merc_tree.specs.declared.declarations.ModeDecl.{ModeDecl}
use Rattle.merc_tree.specs.declared.declarations.TypeDef.{TypeDef}
use Rattle.merc_goal_tree.specs.declared.goal.Symbol.{Symbol}
use Rattle.merc_graded_tree.specs.declared.entries.Running.{Running}
use Rattle.merc_graded_tree.specs.Nodes.{Node, node, Goal, Basic, Conjunction, Disjunction, Switch, Conditional, Negation, Quantified, Nodes, no_nodes, more_nodes, Arms, no_arms, more_arms, outputs_of}
use Rattle.merc_graded_tree.specs.Roots.{symbols_of}
use Rattle.merc_graded_tree.specs.Variables.{in_goal, in_node, in_nodes}
use Rattle.merc_order.specs.Bound.{Bound, with, among}
use Rattle.merc_grading.specs.Known.{Known, known_behind, has_symbol}
use Rattle.merc_grading.specs.Grading.{graded, graded_goal, graded_all, graded_each, graded_arms}
use Rattle.merc_order_laws.specs.Bindings.{Variables, ArmBinds}
use Rattle.merc_order_laws.specs.GoodTree.{node_ends, GoodNode, GoodGoal, GoodNodes, GoodDisjuncts, GoodArms, DisjunctsBind, ArmsBind, behind_nodes}
use Rattle.merc_program_laws.specs.Guarding.{Guards, GuardsGoal, OneGuards, EachGuards, EachArmGuards, HasGuards, GoalHasGuards, AllHaveGuards, ArmsHaveGuards}
use Rattle.merc_program_laws.proofs.Sights.{Sight, sight, same_sight, decided, negated, owned, joined, in_front, same_behind}
use Rattle.merc_program_laws.proofs.BeginningGuards.{either}
use Rattle.merc_program_laws.proofs.GradedSights.{next_known, graded_outputs, graded_ends, in_graded, in_graded_goal, in_graded_all, in_graded_each}

module _ (declared : List TypeDef) (types : ℕ → TypeExpr) (modes : ℕ → List ModeDecl) where
  abbrev with_all : Known → Node → Node
  with_all seen m = graded declared modes types seen m

  -- what is known at the goal of a conjunction behind this one
  abbrev next : Running → Known → Node → Known
  next running seen m = next_known declared types modes running seen m

  graded_sight : (seen : Known) (m : Node) → sight modes (with_all seen m) ≡ sight modes m
  graded_sight seen m = same_sight modes (with_all seen m) m (graded_ends declared types modes seen m) (graded_outputs declared types modes seen m) (in_graded declared types modes seen m)

  behind_graded : (running : Running) (seen : Known) (ms : Nodes) (bound : Bound) → behind_nodes bound (graded_all declared modes types running seen ms) ≡ behind_nodes bound ms
  behind_graded running seen no_nodes bound = refl
  behind_graded running seen (more_nodes m ms) bound =
      same_behind modes bound m (with_all seen m) ms (graded_all declared modes types running (next running seen m) ms) (graded_outputs declared types modes seen m)
      (behind_graded running (next running seen m) ms (with bound (among (outputs_of m))))

  -- an arm binds as before
  arm_binds : (seen : Known) (m : Node) (outside whole : Variables) (bound : Bound) (outs : List ℕ) → ArmBinds (node_ends modes m) outside whole bound outs (with bound (among (outputs_of m)))
      → ArmBinds (node_ends modes (with_all seen m)) outside whole bound outs (with bound (among (outputs_of (with_all seen m))))
  arm_binds seen m outside whole bound outs h = subst (λ (s : Sight). ArmBinds s.ends outside whole bound outs (with bound (among s.outputs))) (sym (graded_sight seen m)) h

  each_binds : (seen : Known) (ms : Nodes) (outside whole : Variables) (bound : Bound) (outs : List ℕ) → DisjunctsBind modes outside whole bound outs ms
      → DisjunctsBind modes outside whole bound outs (graded_each declared modes types seen ms)
  each_binds seen no_nodes outside whole bound outs h = tt
  each_binds seen (more_nodes m ms) outside whole bound outs h = (arm_binds seen m outside whole bound outs h.0, each_binds seen ms outside whole bound outs h.1)

  arms_bind : (seen : Known) (x : ℕ) (arms : Arms) (outside whole : Variables) (bound : Bound) (outs : List ℕ) → ArmsBind modes outside whole bound outs arms
      → ArmsBind modes outside whole bound outs (graded_arms declared modes types seen x arms)
  arms_bind seen x no_arms outside whole bound outs h = tt
  arms_bind seen x (more_arms symbol m arms) outside whole bound outs h = (arm_binds ((x, symbol) ∷ seen) m outside whole bound outs h.0, arms_bind seen x arms outside whole bound outs h.1)

  mutual
    graded_good : (m : Node) (seen : Known) (outside : Variables) (bound : Bound) → GoodNode modes outside bound m → GoodNode modes outside bound (with_all seen m)
    graded_good (node g outs c at) seen outside bound good = (λ v h. in_graded declared types modes seen (node g outs c at) v ∙ good.0 v h, good.1, graded_goal_good g seen outside bound outs good.2)

    graded_goal_good : (g : Goal) (seen : Known) (outside : Variables) (bound : Bound) (outs : List ℕ) → GoodGoal modes outside bound outs g → GoodGoal modes outside bound outs (graded_goal declared modes types seen g)
    graded_goal_good (Basic g) seen outside bound outs good = good
    graded_goal_good (Conjunction running ms) seen outside bound outs good =
        joined modes outside bound outs running ms (graded_all declared modes types running seen ms) (in_graded_all declared types modes running seen ms) (behind_graded running seen ms bound) good
        (all_good running ms seen outside bound good.0)
    graded_goal_good (Disjunction ms) seen outside bound outs good = (
      each_good ms seen outside bound good.0,
      subst (λ (i : Variables). DisjunctsBind modes outside i bound outs (graded_each declared modes types seen ms)) (sym (fun_ext (in_graded_each declared types modes seen ms))) (each_binds seen ms outside (in_nodes ms) bound outs good.1),
    )
    graded_goal_good (Switch x arms) seen outside bound outs good = (
      good.0,
      arms_good arms x seen (with outside (among (x ∷ []))) bound good.1,
      subst (λ (i : Variables). ArmsBind modes outside i bound outs (graded_arms declared modes types seen x arms)) (sym (fun_ext (in_graded_goal declared types modes seen (Switch x arms))))
          (arms_bind seen x arms outside (in_goal (Switch x arms)) bound outs good.2),
    )
    graded_goal_good (Conditional c t e) seen outside bound outs good =
        let behind = known_behind c seen in
        decided modes outside bound outs c t e (with_all seen c) (with_all behind t) (with_all seen e) (graded_sight seen c) (graded_sight behind t) (graded_sight seen e) good
        (graded_good c seen (with outside (with (in_node t) (in_node e))) bound good.0)
        (graded_good t behind (with outside (with (in_node c) (in_node e))) (with bound (among (outputs_of c))) good.2)
        (graded_good e seen (with outside (with (in_node c) (in_node t))) bound good.4)
    graded_goal_good (Negation m) seen outside bound outs good = negated modes outside bound outs m (with_all seen m) (graded_sight seen m) good (graded_good m seen outside bound good.0)
    graded_goal_good (Quantified own m) seen outside bound outs good = owned modes outside bound outs own m (with_all seen m) (graded_sight seen m) good (graded_good m seen outside bound good.0)

    all_good : (running : Running) (ms : Nodes) (seen : Known) (outside : Variables) (bound : Bound) → GoodNodes modes outside bound ms → GoodNodes modes outside bound (graded_all declared modes types running seen ms)
    all_good running no_nodes seen outside bound good = tt
    all_good running (more_nodes m ms) seen outside bound good =
        let later = next running seen m in
        in_front modes outside bound m (with_all seen m) ms (graded_all declared modes types running later ms) (graded_sight seen m) (in_graded_all declared types modes running later ms)
        (graded_good m seen (with outside (in_nodes ms)) bound good.0) (all_good running ms later (with outside (in_node m)) (with bound (among (outputs_of m))) good.1)

    each_good : (ms : Nodes) (seen : Known) (outside : Variables) (bound : Bound) → GoodDisjuncts modes outside bound ms → GoodDisjuncts modes outside bound (graded_each declared modes types seen ms)
    each_good no_nodes seen outside bound good = tt
    each_good (more_nodes m ms) seen outside bound good = (graded_good m seen outside bound good.0, each_good ms seen outside bound good.1)

    arms_good : (arms : Arms) (x : ℕ) (seen : Known) (outside : Variables) (bound : Bound) → GoodArms modes outside bound arms → GoodArms modes outside bound (graded_arms declared modes types seen x arms)
    arms_good no_arms x seen outside bound good = tt
    arms_good (more_arms symbol m arms) x seen outside bound good = (graded_good m ((x, symbol) ∷ seen) outside bound good.0, arms_good arms x seen outside bound good.1)

  pub graded_is_good : (seen : Known) (outside : Variables) (bound : Bound) (m : Node) → GoodNode modes outside bound m → GoodNode modes outside bound (with_all seen m)
  graded_is_good seen outside bound m good = graded_good m seen outside bound good

  -- Guards.

  module _ (x : ℕ) (symbol : Symbol) where
    mutual
      graded_guards : (m : Node) (seen : Known) → Guards x symbol m → Guards x symbol (with_all seen m)
      graded_guards (node g outs c at) seen h = graded_goal_guards g seen h

      graded_goal_guards : (g : Goal) (seen : Known) → GuardsGoal x symbol g → GuardsGoal x symbol (graded_goal declared modes types seen g)
      graded_goal_guards (Basic g) seen h = h
      graded_goal_guards (Conjunction running ms) seen h = one_guards running ms seen h
      graded_goal_guards (Disjunction ms) seen h = each_guards ms seen h
      graded_goal_guards (Switch y arms) seen h = arms_guard arms y seen h
      graded_goal_guards (Conditional c t e) seen h = absurd h
      graded_goal_guards (Negation m) seen h = absurd h
      graded_goal_guards (Quantified own m) seen h = absurd h

      one_guards : (running : Running) (ms : Nodes) (seen : Known) → OneGuards x symbol ms → OneGuards x symbol (graded_all declared modes types running seen ms)
      one_guards running no_nodes seen h = absurd h
      one_guards running (more_nodes m ms) seen h = either (graded_guards m seen) (one_guards running ms (next running seen m)) h

      each_guards : (ms : Nodes) (seen : Known) → EachGuards x symbol ms → EachGuards x symbol (graded_each declared modes types seen ms)
      each_guards no_nodes seen h = tt
      each_guards (more_nodes m ms) seen h = (graded_guards m seen h.0, each_guards ms seen h.1)

      arms_guard : (arms : Arms) (y : ℕ) (seen : Known) → EachArmGuards x symbol arms → EachArmGuards x symbol (graded_arms declared modes types seen y arms)
      arms_guard no_arms y seen h = tt
      arms_guard (more_arms other m arms) y seen h = (graded_guards m ((y, other) ∷ seen) h.0, arms_guard arms y seen h.1)

  same_symbols : (arms : Arms) (x : ℕ) (seen : Known) → symbols_of (graded_arms declared modes types seen x arms) ≡ symbols_of arms
  same_symbols no_arms x seen = refl
  same_symbols (more_arms symbol m arms) x seen = ap (λ l. symbol ∷ l) (same_symbols arms x seen)

  mutual
    graded_has : (m : Node) (seen : Known) → HasGuards m → HasGuards (with_all seen m)
    graded_has (node g outs c at) seen h = graded_goal_has g seen h

    graded_goal_has : (g : Goal) (seen : Known) → GoalHasGuards g → GoalHasGuards (graded_goal declared modes types seen g)
    graded_goal_has (Basic g) seen h = tt
    graded_goal_has (Conjunction running ms) seen h = all_have running ms seen h
    graded_goal_has (Disjunction ms) seen h = each_has ms seen h
    graded_goal_has (Switch x arms) seen h = arms_have arms x seen h
    graded_goal_has (Conditional c t e) seen h = (graded_has c seen h.0, graded_has t (known_behind c seen) h.1, graded_has e seen h.2)
    graded_goal_has (Negation m) seen h = graded_has m seen h
    graded_goal_has (Quantified own m) seen h = graded_has m seen h

    all_have : (running : Running) (ms : Nodes) (seen : Known) → AllHaveGuards ms → AllHaveGuards (graded_all declared modes types running seen ms)
    all_have running no_nodes seen h = tt
    all_have running (more_nodes m ms) seen h = (graded_has m seen h.0, all_have running ms (next running seen m) h.1)

    each_has : (ms : Nodes) (seen : Known) → AllHaveGuards ms → AllHaveGuards (graded_each declared modes types seen ms)
    each_has no_nodes seen h = tt
    each_has (more_nodes m ms) seen h = (graded_has m seen h.0, each_has ms seen h.1)

    arms_have : (arms : Arms) (x : ℕ) (seen : Known) → ArmsHaveGuards x arms → ArmsHaveGuards x (graded_arms declared modes types seen x arms)
    arms_have no_arms x seen h = tt
    arms_have (more_arms symbol m arms) x seen h = (
      graded_guards x symbol m ((x, symbol) ∷ seen) h.0,
      ap (λ (l : List Symbol). has_symbol l symbol) (same_symbols arms x seen) ∙ h.1,
      graded_has m ((x, symbol) ∷ seen) h.2,
      arms_have arms x seen h.3,
    )

  pub graded_has_guards : (seen : Known) (m : Node) → HasGuards m → HasGuards (with_all seen m)
  graded_has_guards seen m h = graded_has m seen h
