-- A goal with its switches begins as the goal does.
use Rattle.std.specs.Prelude.{◌≡◌, ℕ, zero, suc, List, [], length, Option, Some, None, refl}
use Rattle.std.proofs.Common.{◌∙◌, ap}
use Rattle.merc_base.specs.declared.place.Span.{Span}
use Rattle.merc_tree.specs.Types.{TypeExpr}
use Rattle.merc_tree.specs.declared.declarations.TypeDef.{TypeDef}
use Rattle.merc_graded_tree.specs.declared.entries.Running.TheVariants.{Sequential, Parallel}
use Rattle.merc_graded_tree.specs.Nodes.{Node, node, Goal, Basic, Conjunction, Disjunction, Switch, Conditional, Negation, Quantified, Nodes, no_nodes, more_nodes, list_of}
use Rattle.merc_order.specs.Bound.{Bound}
use Rattle.merc_grading.specs.Switches.{Beginning, stops, followed, beginning, goal_beginning, all_beginning, split_variables, choice, switched, regrouped, bound_behind, find, find_goal, find_all, find_each}

module _ (declared : List TypeDef) (types : ℕ → TypeExpr) where
  switched_stops : (chosen : Option ℕ) (switch : ℕ → Goal) (disjuncts : List Node) → ((variable : ℕ) → goal_beginning (switch variable) ≡ stops) → goal_beginning (switched declared types chosen switch disjuncts) ≡ stops
  switched_stops None switch disjuncts stop = refl
  switched_stops (Some variable) switch disjuncts stop = stop variable

  regrouped_stops : (left : ℕ) (outputs : List ℕ) (span : Span) (bound : Bound) (used : List ℕ) (disjuncts : List Node) → goal_beginning (regrouped declared types left outputs span bound used disjuncts) ≡ stops
  regrouped_stops zero outputs span bound used disjuncts = refl
  regrouped_stops (suc left) outputs span bound used disjuncts = switched_stops (choice declared types bound used disjuncts) _ disjuncts (λ variable. refl)

  mutual
    pub found_beginning : (bound : Bound) (whole : Node) → beginning (find declared types bound whole) ≡ beginning whole
    found_beginning bound (node goal outputs category span) = found_goal bound outputs span goal

    found_goal : (bound : Bound) (outputs : List ℕ) (span : Span) (goal : Goal) → goal_beginning (find_goal declared types bound outputs span goal) ≡ goal_beginning goal
    found_goal bound outputs span (Basic goal) = refl
    found_goal bound outputs span (Conjunction Sequential goals) = found_all bound goals
    found_goal bound outputs span (Conjunction (Parallel site) goals) = refl
    found_goal bound outputs span (Disjunction goals) =
        let disjuncts = list_of (find_each declared types bound goals) in
        regrouped_stops (length (split_variables disjuncts)) outputs span bound [] disjuncts
    found_goal bound outputs span (Switch variable arms) = refl
    found_goal bound outputs span (Conditional condition then_part else_part) = refl
    found_goal bound outputs span (Negation goal) = refl
    found_goal bound outputs span (Quantified own goal) = refl

    found_all : (bound : Bound) (goals : Nodes) → all_beginning (find_all declared types bound goals) ≡ all_beginning goals
    found_all bound no_nodes = refl
    found_all bound (more_nodes first rest) =
        ap (λ (b : Beginning). followed b (all_beginning (find_all declared types (bound_behind declared types bound first) rest))) (found_beginning bound first)
        ∙ ap (λ (b : Beginning). followed (beginning first) b) (found_all (bound_behind declared types bound first) rest)
