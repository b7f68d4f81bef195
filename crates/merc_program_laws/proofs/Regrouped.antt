-- A goal with its switches: its variables, and whether its end can be reached.
use Rattle.std.proofs.Common.{◌≡◌, ℕ, zero, suc, Bool, true, false, ◌==◌, ◌||◌, ◌&&◌, List, [], ◌∷◌, length, Option, Some, None, refl, ap, sym, ◌∙◌}
use Rattle.std.proofs.lemmas.Bool.Decides.{Decides-eqb}
use Rattle.merc_base.specs.declared.place.Span.{Span}
use Rattle.merc_tree.specs.Types.{TypeExpr}
use Rattle.merc_tree.specs.declared.declarations.ModeDecl.{ModeDecl}
use Rattle.merc_tree.specs.declared.declarations.TypeDef.{TypeDef}
use Rattle.merc_graded_tree.specs.Nodes.{Node, node, Goal, Basic, Conjunction, Disjunction, Switch, Conditional, Negation, Quantified, Nodes, no_nodes, more_nodes, nodes_of, list_of, outputs_of}
use Rattle.merc_graded_tree.specs.RootLaws.{nodes_of-list_of}
use Rattle.merc_graded_tree.specs.Variables.{in_goal, in_node, in_nodes, in_arms}
use Rattle.merc_order.specs.Bound.{Bound}
use Rattle.merc_grading.specs.Switches.{Group, split_variables, choice, grouped, switched, arms_of_groups, arm_body, regrouped, bound_behind, find, find_goal, find_all, find_each}
use Rattle.merc_grading.proofs.Choosing.{chosen}
use Rattle.merc_switch_choice.proofs.SplitVariables.{split_occurs}
use Rattle.merc_switch_choice.proofs.GroupLaws.{in_groups, in_grouped}
use Rattle.merc_order_laws.specs.GoodTree.{node_ends, goal_ends, all_nodes_end, some_node_ends, some_arm_ends}
use Rattle.merc_order_laws.proofs.Facts.{or_left, or_same, and_same}
use Rattle.merc_program_laws.proofs.Groups.{groups_end, ends_grouped}

right_false : (b : Bool) → b ≡ (b || false)
right_false true = refl
right_false false = refl

-- a variable that occurs in any case adds nothing
own_if : (b : Bool) (k : Bool) → (b ≡ true → k ≡ true) → (b || k) ≡ k
own_if true k f = sym (f refl)
own_if false k f = refl

module _ (declared : List TypeDef) (types : ℕ → TypeExpr) (modes : ℕ → List ModeDecl) where
  -- A goal has the end and the variables of a disjunction of these.
  pub record StandsFor (disjuncts : List Node) (goal : Goal) : Type 0 where
    pub ends : goal_ends modes goal ≡ some_node_ends modes (nodes_of disjuncts)
    pub inside : (variable : ℕ) → in_goal goal variable ≡ in_nodes (nodes_of disjuncts) variable

  pub itself : (disjuncts : List Node) → StandsFor disjuncts (Disjunction (nodes_of disjuncts))
  itself disjuncts = record { ends = refl; inside = λ v. refl }

  body_ends : (outputs : List ℕ) (span : Span) (again : List Node → Goal) → ((several : List Node) → StandsFor several (again several)) → (disjuncts : List Node)
      → node_ends modes (arm_body declared types outputs span again disjuncts) ≡ some_node_ends modes (nodes_of disjuncts)
  body_ends outputs span again stands [] = (stands []).ends
  body_ends outputs span again stands (only ∷ []) = right_false (node_ends modes only)
  body_ends outputs span again stands (first ∷ second ∷ rest) = (stands (first ∷ second ∷ rest)).ends

  body_inside : (outputs : List ℕ) (span : Span) (again : List Node → Goal) → ((several : List Node) → StandsFor several (again several)) → (disjuncts : List Node) (variable : ℕ)
      → in_node (arm_body declared types outputs span again disjuncts) variable ≡ in_nodes (nodes_of disjuncts) variable
  body_inside outputs span again stands [] variable = (stands []).inside variable
  body_inside outputs span again stands (only ∷ []) variable = right_false (in_node only variable)
  body_inside outputs span again stands (first ∷ second ∷ rest) variable = (stands (first ∷ second ∷ rest)).inside variable

  arms_end : (body : List Node → Node) → ((disjuncts : List Node) → node_ends modes (body disjuncts) ≡ some_node_ends modes (nodes_of disjuncts)) → (groups : List Group)
      → some_arm_ends modes (arms_of_groups declared types body groups) ≡ groups_end modes groups
  arms_end body same [] = refl
  arms_end body same (group ∷ groups) =
      or_same (node_ends modes (body group.1)) (some_arm_ends modes (arms_of_groups declared types body groups)) (some_node_ends modes (nodes_of group.1)) (groups_end modes groups) (same group.1) (arms_end body same groups)

  arms_inside : (body : List Node → Node) (variable : ℕ) → ((disjuncts : List Node) → in_node (body disjuncts) variable ≡ in_nodes (nodes_of disjuncts) variable) → (groups : List Group)
      → in_arms (arms_of_groups declared types body groups) variable ≡ in_groups groups variable
  arms_inside body variable same [] = refl
  arms_inside body variable same (group ∷ groups) =
      or_same (in_node (body group.1) variable) (in_arms (arms_of_groups declared types body groups) variable) (in_nodes (nodes_of group.1) variable) (in_groups groups variable) (same group.1) (arms_inside body variable same groups)

  -- the variable of a switch occurs, since there is a disjunct
  pub chosen_occurs : (bound : Bound) (used : List ℕ) (disjuncts : List Node) (variable : ℕ) → choice declared types bound used disjuncts ≡ Some variable → in_nodes (nodes_of disjuncts) variable ≡ true
  chosen_occurs bound used [] variable is = absurd (cc)
  chosen_occurs bound used (first ∷ rest) variable is =
      let there = (chosen declared types bound used (first ∷ rest) variable is).can.symbols in
      or_left (in_node first variable) (in_nodes (nodes_of rest) variable) (split_occurs first variable there.0.0 there.0.1)

  switch_stands : (outputs : List ℕ) (span : Span) (bound : Bound) (used : List ℕ) (again : ℕ → List Node → Goal) (disjuncts : List Node) → ((variable : ℕ) (several : List Node) → StandsFor several (again variable several))
      → (choice_is : Option ℕ) → choice declared types bound used disjuncts ≡ choice_is
      → StandsFor disjuncts (switched declared types choice_is (λ variable. Switch variable (arms_of_groups declared types (arm_body declared types outputs span (again variable)) (grouped variable disjuncts))) disjuncts)
  switch_stands outputs span bound used again disjuncts stands None is = itself disjuncts
  switch_stands outputs span bound used again disjuncts stands (Some variable) is =
      let there = (chosen declared types bound used disjuncts variable is).can.symbols in
      let body = arm_body declared types outputs span (again variable) in
      record {
        ends = arms_end body (body_ends outputs span (again variable) (stands variable)) (grouped variable disjuncts) ∙ ends_grouped modes variable disjuncts there;
        inside = λ v. ap (λ b. (v == variable) || b) (arms_inside body v (λ several. body_inside outputs span (again variable) (stands variable) several v) (grouped variable disjuncts) ∙ in_grouped variable disjuncts v there)
            ∙ own_if (v == variable) (in_nodes (nodes_of disjuncts) v) (λ h. ap (in_nodes (nodes_of disjuncts)) ((Decides-eqb v variable).0 h) ∙ chosen_occurs bound used disjuncts variable is);
      }

  pub regrouped_stands : (left : ℕ) (outputs : List ℕ) (span : Span) (bound : Bound) (used : List ℕ) (disjuncts : List Node)
      → StandsFor disjuncts (regrouped declared types left outputs span bound used disjuncts)
  regrouped_stands zero outputs span bound used disjuncts = itself disjuncts
  regrouped_stands (suc left) outputs span bound used disjuncts =
      switch_stands outputs span bound used (λ variable several. regrouped declared types left outputs span bound (variable ∷ used) several) disjuncts
      (λ variable several. regrouped_stands left outputs span bound (variable ∷ used) several) (choice declared types bound used disjuncts) refl

  mutual
    pub found_ends : (bound : Bound) (tree : Node) → node_ends modes (find declared types bound tree) ≡ node_ends modes tree
    found_ends bound (node goal outputs category span) = found_goal_ends bound outputs span goal

    found_goal_ends : (bound : Bound) (outputs : List ℕ) (span : Span) (goal : Goal) → goal_ends modes (find_goal declared types bound outputs span goal) ≡ goal_ends modes goal
    found_goal_ends bound outputs span (Basic goal) = refl
    found_goal_ends bound outputs span (Conjunction running goals) = found_all_end bound goals
    found_goal_ends bound outputs span (Disjunction goals) =
        let disjuncts = list_of (find_each declared types bound goals) in
        (regrouped_stands (length (split_variables disjuncts)) outputs span bound [] disjuncts).ends
        ∙ ap (some_node_ends modes) (nodes_of-list_of (find_each declared types bound goals))
        ∙ found_some_ends bound goals
    found_goal_ends bound outputs span (Switch variable arms) = refl
    found_goal_ends bound outputs span (Conditional condition then_part else_part) =
        or_same (node_ends modes (find declared types bound condition) && node_ends modes (find declared types (bound_behind declared types bound condition) then_part)) (node_ends modes (find declared types bound else_part))
        (node_ends modes condition && node_ends modes then_part) (node_ends modes else_part)
        (and_same (node_ends modes (find declared types bound condition)) (node_ends modes (find declared types (bound_behind declared types bound condition) then_part)) (node_ends modes condition) (node_ends modes then_part)
        (found_ends bound condition) (found_ends (bound_behind declared types bound condition) then_part))
        (found_ends bound else_part)
    found_goal_ends bound outputs span (Negation goal) = refl
    found_goal_ends bound outputs span (Quantified own goal) = found_ends bound goal

    found_all_end : (bound : Bound) (goals : Nodes) → all_nodes_end modes (find_all declared types bound goals) ≡ all_nodes_end modes goals
    found_all_end bound no_nodes = refl
    found_all_end bound (more_nodes first rest) =
        and_same (node_ends modes (find declared types bound first)) (all_nodes_end modes (find_all declared types (bound_behind declared types bound first) rest)) (node_ends modes first) (all_nodes_end modes rest)
        (found_ends bound first) (found_all_end (bound_behind declared types bound first) rest)

    found_some_ends : (bound : Bound) (goals : Nodes) → some_node_ends modes (find_each declared types bound goals) ≡ some_node_ends modes goals
    found_some_ends bound no_nodes = refl
    found_some_ends bound (more_nodes first rest) =
        or_same (node_ends modes (find declared types bound first)) (some_node_ends modes (find_each declared types bound rest)) (node_ends modes first) (some_node_ends modes rest)
        (found_ends bound first) (found_some_ends bound rest)

pub found_outputs : (declared : List TypeDef) (types : ℕ → TypeExpr) (bound : Bound) (tree : Node) → outputs_of (find declared types bound tree) ≡ outputs_of tree
found_outputs declared types bound (node goal outputs category span) = refl
