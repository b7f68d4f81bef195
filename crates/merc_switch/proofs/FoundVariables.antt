-- The variables of a goal with its switches are those of the goal.
use Rattle.std.specs.Prelude.{◌≡◌, ◌<◌, ℕ, zero, suc, Bool, true, false, ◌==◌, ◌||◌, List, [], ◌∷◌, length, Option, Some, None, refl}
use Rattle.std.specs.List.{AllByRecursion}
use Rattle.std.proofs.Common.{◌∙◌, ap, sym, subst, arith}
use Rattle.std.proofs.lemmas.Bool.Decides.{Decides-eqb}
use Rattle.merc_base.specs.declared.place.Span.{Span}
use Rattle.merc_tree.specs.Types.{TypeExpr}
use Rattle.merc_tree.specs.declared.declarations.TypeDef.{TypeDef}
use Rattle.merc_goal_tree.specs.declared.goal.Symbol.{Symbol}
use Rattle.merc_graded_tree.specs.Nodes.{Node, node, Goal, Basic, Conjunction, Disjunction, Switch, Conditional, Negation, Quantified, Nodes, no_nodes, more_nodes, nodes_of, list_of}
use Rattle.merc_graded_tree.specs.RootLaws.{nodes_of-list_of}
use Rattle.merc_graded_tree.specs.Variables.{in_node, in_goal, in_nodes, in_arms}
use Rattle.merc_order.specs.Bound.{Bound}
use Rattle.merc_grading.specs.Switches.{Group, symbol_at, split_variables, choice, grouped, switched, arms_of_groups, arm_body, regrouped, bound_behind, find, find_goal, find_all, find_each}
use Rattle.merc_grading.proofs.Choosing.{chosen}
use Rattle.merc_switch_choice.proofs.Members.{or_false}
use Rattle.merc_switch_choice.proofs.SplitVariables.{split_occurs}
use Rattle.merc_switch_choice.proofs.GroupLaws.{in_groups, in_grouped}

-- the variable of a switch occurs in the disjuncts

own_occurs_if : (whole variable : ℕ) (b others : Bool) → (variable == whole) ≡ b → (variable ≡ whole → others ≡ true) → (b || others) ≡ others
own_occurs_if whole variable true others same occurs = sym (occurs ((Decides-eqb variable whole).0 same))
own_occurs_if whole variable false others same occurs = refl

first_occurs : (whole : ℕ) (disjuncts : List Node) (variable : ℕ) → 0 < length disjuncts → AllByRecursion (λ disjunct. (symbol : Symbol) × (symbol_at whole disjunct ≡ Some symbol)) disjuncts
    → variable ≡ whole → in_nodes (nodes_of disjuncts) variable ≡ true
first_occurs whole [] variable some there same = absurd (omega (arith, some))
first_occurs whole (first ∷ rest) variable some (one, others) same =
    ap (λ b. b || in_nodes (nodes_of rest) variable) (subst (λ v. in_node first v ≡ true) (sym same) (split_occurs first whole one.0 one.1))

module _ (declared : List TypeDef) (types : ℕ → TypeExpr) where
  in_arm_body : (outputs : List ℕ) (span : Span) (again : List Node → Goal) (variable : ℕ) → ((several : List Node) → in_goal (again several) variable ≡ in_nodes (nodes_of several) variable)
      → (disjuncts : List Node) → in_node (arm_body declared types outputs span again disjuncts) variable ≡ in_nodes (nodes_of disjuncts) variable
  in_arm_body outputs span again variable same [] = same []
  in_arm_body outputs span again variable same (only ∷ []) = sym (or_false (in_node only variable))
  in_arm_body outputs span again variable same (first ∷ second ∷ rest) = same (first ∷ second ∷ rest)

  in_arms_of : (body : List Node → Node) (variable : ℕ) → ((disjuncts : List Node) → in_node (body disjuncts) variable ≡ in_nodes (nodes_of disjuncts) variable)
      → (groups : List Group) → in_arms (arms_of_groups declared types body groups) variable ≡ in_groups groups variable
  in_arms_of body variable same [] = refl
  in_arms_of body variable same (group ∷ groups) =
      ap (λ b. b || in_arms (arms_of_groups declared types body groups) variable) (same group.1)
      ∙ ap (λ b. in_nodes (nodes_of group.1) variable || b) (in_arms_of body variable same groups)

  no_choice : {A : Type 0} {v : ℕ} → ◌≡◌ {A = Option ℕ} None (Some v) → A
  no_choice h = absurd (cc)

  some_disjuncts : (bound : Bound) (used : List ℕ) (disjuncts : List Node) (whole : ℕ) → choice declared types bound used disjuncts ≡ Some whole → 0 < length disjuncts
  some_disjuncts bound used [] whole h = no_choice h
  some_disjuncts bound used (first ∷ rest) whole h = omega arith

  in_switched : (bound : Bound) (used : List ℕ) (disjuncts : List Node) (chosen_is : Option ℕ) (body : ℕ → List Node → Node) (variable : ℕ) → choice declared types bound used disjuncts ≡ chosen_is
      → ((whole : ℕ) (several : List Node) → in_node (body whole several) variable ≡ in_nodes (nodes_of several) variable)
      → in_goal (switched declared types chosen_is (λ whole. Switch whole (arms_of_groups declared types (body whole) (grouped whole disjuncts))) disjuncts) variable ≡ in_nodes (nodes_of disjuncts) variable
  in_switched bound used disjuncts None body variable h same = refl
  in_switched bound used disjuncts (Some whole) body variable h same =
      let there = (chosen declared types bound used disjuncts whole h).can.symbols in
      ap (λ b. (variable == whole) || b) (in_arms_of (body whole) variable (same whole) (grouped whole disjuncts) ∙ in_grouped whole disjuncts variable there)
      ∙ own_occurs_if whole variable (variable == whole) (in_nodes (nodes_of disjuncts) variable) refl (first_occurs whole disjuncts variable (some_disjuncts bound used disjuncts whole h) there)

  in_regrouped : (left : ℕ) (outputs : List ℕ) (span : Span) (bound : Bound) (used : List ℕ) (disjuncts : List Node) (variable : ℕ)
      → in_goal (regrouped declared types left outputs span bound used disjuncts) variable ≡ in_nodes (nodes_of disjuncts) variable
  in_regrouped zero outputs span bound used disjuncts variable = refl
  in_regrouped (suc left) outputs span bound used disjuncts variable =
      in_switched bound used disjuncts (choice declared types bound used disjuncts)
      (λ whole. arm_body declared types outputs span (λ several. regrouped declared types left outputs span bound (whole ∷ used) several)) variable refl
      (λ whole. in_arm_body outputs span (λ several. regrouped declared types left outputs span bound (whole ∷ used) several) variable
      (λ several. in_regrouped left outputs span bound (whole ∷ used) several variable))

  mutual
    pub in_found : (bound : Bound) (whole : Node) (variable : ℕ) → in_node (find declared types bound whole) variable ≡ in_node whole variable
    in_found bound (node goal outputs category span) variable = in_found_goal bound outputs span goal variable

    in_found_goal : (bound : Bound) (outputs : List ℕ) (span : Span) (goal : Goal) (variable : ℕ) → in_goal (find_goal declared types bound outputs span goal) variable ≡ in_goal goal variable
    in_found_goal bound outputs span (Basic goal) variable = refl
    in_found_goal bound outputs span (Conjunction running goals) variable = in_found_all bound goals variable
    in_found_goal bound outputs span (Disjunction goals) variable =
        let disjuncts = list_of (find_each declared types bound goals) in
        in_regrouped (length (split_variables disjuncts)) outputs span bound [] disjuncts variable
        ∙ ap (λ l. in_nodes l variable) (nodes_of-list_of (find_each declared types bound goals))
        ∙ in_found_each bound goals variable
    in_found_goal bound outputs span (Switch whole arms) variable = refl
    in_found_goal bound outputs span (Conditional condition then_part else_part) variable =
        ap (λ b. b || (in_node (find declared types (bound_behind declared types bound condition) then_part) variable || in_node (find declared types bound else_part) variable)) (in_found bound condition variable)
        ∙ ap (λ b. in_node condition variable || (b || in_node (find declared types bound else_part) variable)) (in_found (bound_behind declared types bound condition) then_part variable)
        ∙ ap (λ b. in_node condition variable || (in_node then_part variable || b)) (in_found bound else_part variable)
    in_found_goal bound outputs span (Negation goal) variable = in_found bound goal variable
    in_found_goal bound outputs span (Quantified own goal) variable = in_found bound goal variable

    in_found_all : (bound : Bound) (goals : Nodes) (variable : ℕ) → in_nodes (find_all declared types bound goals) variable ≡ in_nodes goals variable
    in_found_all bound no_nodes variable = refl
    in_found_all bound (more_nodes first rest) variable =
        ap (λ b. b || in_nodes (find_all declared types (bound_behind declared types bound first) rest) variable) (in_found bound first variable)
        ∙ ap (λ b. in_node first variable || b) (in_found_all (bound_behind declared types bound first) rest variable)

    in_found_each : (bound : Bound) (goals : Nodes) (variable : ℕ) → in_nodes (find_each declared types bound goals) variable ≡ in_nodes goals variable
    in_found_each bound no_nodes variable = refl
    in_found_each bound (more_nodes first rest) variable =
        ap (λ b. b || in_nodes (find_each declared types bound rest) variable) (in_found bound first variable)
        ∙ ap (λ b. in_node first variable || b) (in_found_each bound rest variable)
