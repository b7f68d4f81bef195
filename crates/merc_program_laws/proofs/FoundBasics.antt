-- What holds of each part of a goal that holds no others still does once switches are found.
use Rattle.std.proofs.Common.{ℕ, zero, suc, List, [], ◌∷◌, ◌++◌, length, Option, Some, None}
use Rattle.std.specs.List.{AllByRecursion}
use Rattle.merc_base.specs.declared.place.Span.{Span}
use Rattle.merc_tree.specs.Types.{TypeExpr}
use Rattle.merc_tree.specs.declared.declarations.TypeDef.{TypeDef}
use Rattle.merc_tree.specs.declared.declarations.Module.{Module}
use Rattle.merc_graded_tree.specs.declared.basic.BasicGoal.{BasicGoal}
use Rattle.merc_graded_tree.specs.Nodes.{Node, node, Goal, Basic, Conjunction, Disjunction, Switch, Conditional, Negation, Quantified, Nodes, no_nodes, more_nodes, nodes_of, list_of}
use Rattle.merc_order.specs.Bound.{Bound}
use Rattle.merc_grading.specs.Switches.{Group, split_variables, choice, grouped, switched, arms_of_groups, arm_body, regrouped, bound_behind, find, find_goal, find_all, find_each}
use Rattle.merc_switch_choice.proofs.GroupLaws.{AllIn, grouped_all}
use Rattle.merc_type_check.specs.Typing.{IsTypedGoal}
use Rattle.merc_order_laws.specs.WrittenGoals.{basic_goals, basic_goals_in, all_basic_goals, arm_basic_goals, written_goal}
use Rattle.merc_order_laws.specs.TypedTree.{IsTypedTree}
use Rattle.merc_order_laws.proofs.Written.{all_left, all_right, all_joined}
use Rattle.merc_program_laws.specs.GoodPrograms.{HasLiteral, HasLiterals}

module _ (declared : List TypeDef) (types : ℕ → TypeExpr) (P : BasicGoal → Type 0) where
  abbrev Holds : Node → Type 0
  Holds m = AllByRecursion P (basic_goals m)

  abbrev HoldsIn : Goal → Type 0
  HoldsIn g = AllByRecursion P (basic_goals_in g)

  abbrev AllHold : List Node → Type 0
  AllHold ds = AllByRecursion Holds ds

  nodes_hold : (ds : List Node) → AllHold ds → AllByRecursion P (all_basic_goals (nodes_of ds))
  nodes_hold [] all = tt
  nodes_hold (d ∷ ds) all = all_joined P (basic_goals d) (all_basic_goals (nodes_of ds)) all.0 (nodes_hold ds all.1)

  body_holds : (outs : List ℕ) (at : Span) (again : List Node → Goal) → ((ds : List Node) → AllHold ds → HoldsIn (again ds)) → (ds : List Node) → AllHold ds → Holds (arm_body declared types outs at again ds)
  body_holds outs at again inner [] all = inner [] all
  body_holds outs at again inner (d ∷ []) all = all.0
  body_holds outs at again inner (d ∷ e ∷ ds) all = inner (d ∷ e ∷ ds) all

  arms_hold : (body : List Node → Node) → ((ds : List Node) → AllHold ds → Holds (body ds)) → (gs : List Group) → AllIn Holds gs → AllByRecursion P (arm_basic_goals (arms_of_groups declared types body gs))
  arms_hold body inner [] all = tt
  arms_hold body inner (g ∷ gs) all = all_joined P (basic_goals (body g.1)) (arm_basic_goals (arms_of_groups declared types body gs)) (inner g.1 all.0) (arms_hold body inner gs all.1)

  switch_holds : (outs : List ℕ) (at : Span) (again : ℕ → List Node → Goal) → ((y : ℕ) (ds : List Node) → AllHold ds → HoldsIn (again y ds)) → (ds : List Node) → AllHold ds → (o : Option ℕ)
      → HoldsIn (switched declared types o (λ y. Switch y (arms_of_groups declared types (arm_body declared types outs at (again y)) (grouped y ds))) ds)
  switch_holds outs at again inner ds all None = nodes_hold ds all
  switch_holds outs at again inner ds all (Some y) =
      arms_hold (arm_body declared types outs at (again y)) (body_holds outs at (again y) (inner y)) (grouped y ds) (grouped_all Holds y ds all)

  regrouped_holds : (left : ℕ) (outs : List ℕ) (at : Span) (bound : Bound) (used : List ℕ) (ds : List Node) → AllHold ds → HoldsIn (regrouped declared types left outs at bound used ds)
  regrouped_holds zero outs at bound used ds all = nodes_hold ds all
  regrouped_holds (suc left) outs at bound used ds all =
      switch_holds outs at (λ y several. regrouped declared types left outs at bound (y ∷ used) several) (λ y several k. regrouped_holds left outs at bound (y ∷ used) several k) ds all (choice declared types bound used ds)

  mutual
    pub found_holds : (bound : Bound) (m : Node) → Holds m → Holds (find declared types bound m)
    found_holds bound (node g outs c at) all = found_goal_holds bound outs at g all

    found_goal_holds : (bound : Bound) (outs : List ℕ) (at : Span) (g : Goal) → HoldsIn g → HoldsIn (find_goal declared types bound outs at g)
    found_goal_holds bound outs at (Basic g) all = all
    found_goal_holds bound outs at (Conjunction running ms) all = found_all_hold bound ms all
    found_goal_holds bound outs at (Disjunction ms) all =
        let ds = list_of (find_each declared types bound ms) in
        regrouped_holds (length (split_variables ds)) outs at bound [] ds (found_each_holds bound ms all)
    found_goal_holds bound outs at (Switch x arms) all = all
    found_goal_holds bound outs at (Conditional c t e) all =
        let behind = bound_behind declared types bound c in
        let others = all_right P (basic_goals c) (basic_goals t ++ basic_goals e) all in
        all_joined P (basic_goals (find declared types bound c)) (basic_goals (find declared types behind t) ++ basic_goals (find declared types bound e))
        (found_holds bound c (all_left P (basic_goals c) (basic_goals t ++ basic_goals e) all))
        (all_joined P (basic_goals (find declared types behind t)) (basic_goals (find declared types bound e))
        (found_holds behind t (all_left P (basic_goals t) (basic_goals e) others)) (found_holds bound e (all_right P (basic_goals t) (basic_goals e) others)))
    found_goal_holds bound outs at (Negation m) all = found_holds bound m all
    found_goal_holds bound outs at (Quantified own m) all = found_holds bound m all

    found_all_hold : (bound : Bound) (ms : Nodes) → AllByRecursion P (all_basic_goals ms) → AllByRecursion P (all_basic_goals (find_all declared types bound ms))
    found_all_hold bound no_nodes all = tt
    found_all_hold bound (more_nodes m ms) all =
        all_joined P (basic_goals (find declared types bound m)) (all_basic_goals (find_all declared types (bound_behind declared types bound m) ms))
        (found_holds bound m (all_left P (basic_goals m) (all_basic_goals ms) all))
        (found_all_hold (bound_behind declared types bound m) ms (all_right P (basic_goals m) (all_basic_goals ms) all))

    found_each_holds : (bound : Bound) (ms : Nodes) → AllByRecursion P (all_basic_goals ms) → AllHold (list_of (find_each declared types bound ms))
    found_each_holds bound no_nodes all = tt
    found_each_holds bound (more_nodes m ms) all =
        (found_holds bound m (all_left P (basic_goals m) (all_basic_goals ms) all), found_each_holds bound ms (all_right P (basic_goals m) (all_basic_goals ms) all))

pub found_is_typed : (known : Module) (types : ℕ → TypeExpr) (bound : Bound) (m : Node) → IsTypedTree known types m → IsTypedTree known types (find known.types types bound m)
found_is_typed known types bound m all = found_holds known.types types (λ basic. IsTypedGoal known types (written_goal basic)) bound m all

pub found_has_literals : (declared : List TypeDef) (types : ℕ → TypeExpr) (bound : Bound) (m : Node) → HasLiterals m → HasLiterals (find declared types bound m)
found_has_literals declared types bound m all = found_holds declared types HasLiteral bound m all
