-- A good goal is good with its switches.
use Rattle.std.proofs.Common.{◌≡◌, inl, inr, ℕ, true, List, [], length, refl, ap, sym, subst, ◌∙◌}
use mathlib.Core.Path.{fun_ext}
use Rattle.merc_base.specs.declared.place.Span.{Span}
use Rattle.merc_tree.specs.Types.{TypeExpr}
use Rattle.merc_tree.specs.declared.declarations.ModeDecl.{ModeDecl}
use Rattle.merc_tree.specs.declared.declarations.TypeDef.{TypeDef}
use Rattle.merc_graded_tree.specs.Nodes.{Node, node, Goal, Basic, Conjunction, Disjunction, Switch, Conditional, Negation, Quantified, Nodes, no_nodes, more_nodes, nodes_of, list_of, outputs_of}
use Rattle.merc_graded_tree.specs.RootLaws.{nodes_of-list_of}
use Rattle.merc_graded_tree.specs.Variables.{in_node, in_nodes}
use Rattle.merc_order.specs.Bound.{Bound, Holds, with, among}
use Rattle.merc_grading.specs.Switches.{split_variables, bound_behind, find, find_goal, find_all, find_each}
use Rattle.merc_switch.proofs.FoundVariables.{in_found}
use Rattle.merc_order_laws.specs.Bindings.{Variables, AreFree, ArmBinds}
use Rattle.merc_order_laws.specs.GoodTree.{GoodNode, GoodGoal, GoodNodes, GoodDisjuncts, DisjunctsBind, behind_nodes}
use Rattle.merc_order_laws.proofs.Facts.{or_left, or_right, or_cases, or_same}
use Rattle.merc_program_laws.proofs.Regrouped.{found_ends, found_outputs}
use Rattle.merc_program_laws.proofs.Sights.{Sight, sight, same_sight, decided, negated, owned, joined, in_front, same_behind}
use Rattle.merc_program_laws.proofs.GoodSwitches.{AllFit, regrouped_good}

held_more : (bound outside a : Variables) → Holds bound outside → Holds bound (with outside a)
held_more bound outside a held v h = or_left (outside v) (a v) (held v h)

module _ (declared : List TypeDef) (types : ℕ → TypeExpr) (modes : ℕ → List ModeDecl) where
  abbrev found : Bound → Node → Node
  found bound m = find declared types bound m

  -- outputs occur in their goal, so what is bound behind it occurs outside of what is behind it
  held_behind : (m : Node) (bound outside now a : Variables) → GoodNode modes now bound m → Holds bound outside → Holds (in_node m) a → Holds (with bound (among (outputs_of m))) (with outside a)
  held_behind (node g outs c at) bound outside now a good held inner v h = elim (or_cases (bound v) (among outs v) h) as (λ _. with outside a v ≡ true) [
    | inl k ↦ or_left (outside v) (a v) (held v k)
    | inr k ↦ or_right (outside v) (a v) (inner v (good.0 v k))
  ]

  found_sight : (bound : Bound) (m : Node) → sight modes (found bound m) ≡ sight modes m
  found_sight bound m = same_sight modes (found bound m) m (found_ends declared types modes bound m) (found_outputs declared types bound m) (in_found declared types bound m)

  in_found_all : (bound : Bound) (ms : Nodes) (v : ℕ) → in_nodes (find_all declared types bound ms) v ≡ in_nodes ms v
  in_found_all bound no_nodes v = refl
  in_found_all bound (more_nodes m ms) v =
      or_same (in_node (found bound m) v) (in_nodes (find_all declared types (bound_behind declared types bound m) ms) v) (in_node m v) (in_nodes ms v)
      (in_found declared types bound m v) (in_found_all (bound_behind declared types bound m) ms v)

  in_found_each : (bound : Bound) (ms : Nodes) (v : ℕ) → in_nodes (find_each declared types bound ms) v ≡ in_nodes ms v
  in_found_each bound no_nodes v = refl
  in_found_each bound (more_nodes m ms) v =
      or_same (in_node (found bound m) v) (in_nodes (find_each declared types bound ms) v) (in_node m v) (in_nodes ms v) (in_found declared types bound m v) (in_found_each bound ms v)

  behind_found : (bound : Bound) (ms : Nodes) → behind_nodes bound (find_all declared types bound ms) ≡ behind_nodes bound ms
  behind_found bound no_nodes = refl
  behind_found bound (more_nodes m ms) =
      same_behind modes bound m (found bound m) ms (find_all declared types (bound_behind declared types bound m) ms) (found_outputs declared types bound m) (behind_found (bound_behind declared types bound m) ms)

  mutual
    pub found_good : (m : Node) (outside bound : Variables) → Holds bound outside → GoodNode modes outside bound m → GoodNode modes outside bound (found bound m)
    found_good (node g outs c at) outside bound held good =
        (λ v h. in_found declared types bound (node g outs c at) v ∙ good.0 v h, good.1, found_goal_good g outside bound outs at held good.1 good.2)

    found_goal_good : (g : Goal) (outside bound : Variables) (outs : List ℕ) (at : Span) → Holds bound outside → AreFree bound outs → GoodGoal modes outside bound outs g
        → GoodGoal modes outside bound outs (find_goal declared types bound outs at g)
    found_goal_good (Basic g) outside bound outs at held free good = good
    found_goal_good (Conjunction running ms) outside bound outs at held free good =
        joined modes outside bound outs running ms (find_all declared types bound ms) (in_found_all bound ms) (behind_found bound ms) good (all_good ms outside bound held good.0)
    found_goal_good (Disjunction ms) outside bound outs at held free good =
        let ds = list_of (find_each declared types bound ms) in
        let whole : in_nodes ms ≡ in_nodes (nodes_of ds) = fun_ext (λ v. sym (ap (λ (l : Nodes). in_nodes l v) (nodes_of-list_of (find_each declared types bound ms)) ∙ in_found_each bound ms v)) in
        regrouped_good declared types modes outside bound held (length (split_variables ds)) outs at [] ds free outs
        (subst (λ (i : Variables). AllFit declared types modes outside bound held i outs ds) whole (each_fits ms outside bound (in_nodes ms) outs held good.0 good.1 (λ v h. h))) (λ v h. refl)
    found_goal_good (Switch x arms) outside bound outs at held free good = good
    found_goal_good (Conditional c t e) outside bound outs at held free good =
        decided modes outside bound outs c t e (found bound c) (found (bound_behind declared types bound c) t) (found bound e)
        (found_sight bound c) (found_sight (bound_behind declared types bound c) t) (found_sight bound e) good
        (found_good c (with outside (with (in_node t) (in_node e))) bound (held_more bound outside (with (in_node t) (in_node e)) held) good.0)
        (found_good t (with outside (with (in_node c) (in_node e))) (bound_behind declared types bound c)
        (held_behind c bound outside _ (with (in_node c) (in_node e)) good.0 held (λ v h. or_left (in_node c v) (in_node e v) h)) good.2)
        (found_good e (with outside (with (in_node c) (in_node t))) bound (held_more bound outside (with (in_node c) (in_node t)) held) good.4)
    found_goal_good (Negation m) outside bound outs at held free good =
        negated modes outside bound outs m (found bound m) (found_sight bound m) good (found_good m outside bound held good.0)
    found_goal_good (Quantified own m) outside bound outs at held free good =
        owned modes outside bound outs own m (found bound m) (found_sight bound m) good (found_good m outside bound held good.0)

    all_good : (ms : Nodes) (outside bound : Variables) → Holds bound outside → GoodNodes modes outside bound ms → GoodNodes modes outside bound (find_all declared types bound ms)
    all_good no_nodes outside bound held good = tt
    all_good (more_nodes m ms) outside bound held good =
        in_front modes outside bound m (found bound m) ms (find_all declared types (bound_behind declared types bound m) ms) (found_sight bound m) (in_found_all (bound_behind declared types bound m) ms)
        (found_good m (with outside (in_nodes ms)) bound (held_more bound outside (in_nodes ms) held) good.0)
        (all_good ms (with outside (in_node m)) (bound_behind declared types bound m) (held_behind m bound outside _ (in_node m) good.0 held (λ v h. h)) good.1)

    each_fits : (ms : Nodes) (outside bound whole : Variables) (outs : List ℕ) (held : Holds bound outside) → GoodDisjuncts modes outside bound ms → DisjunctsBind modes outside whole bound outs ms → Holds (in_nodes ms) whole
        → AllFit declared types modes outside bound held whole outs (list_of (find_each declared types bound ms))
    each_fits no_nodes outside bound whole outs held good binds inner = tt
    each_fits (more_nodes m ms) outside bound whole outs held good binds inner = (
      record {
        good = found_good m outside bound held good.0;
        binds = subst (λ (s : Sight). ArmBinds s.ends outside whole bound outs (with bound (among s.outputs))) (sym (found_sight bound m)) binds.0;
        within = λ v h. inner v (or_left (in_node m v) (in_nodes ms v) (sym (in_found declared types bound m v) ∙ h));
      },
      each_fits ms outside bound whole outs held good.1 binds.1 (λ v h. inner v (or_right (in_node m v) (in_nodes ms v) h)),
    )

pub found_is_good : (declared : List TypeDef) (types : ℕ → TypeExpr) (modes : ℕ → List ModeDecl) (outside : Variables) (bound : Bound) (m : Node) → Holds bound outside
    → GoodNode modes outside bound m → GoodNode modes outside bound (find declared types bound m)
found_is_good declared types modes outside bound m held good = found_good declared types modes m outside bound held good
