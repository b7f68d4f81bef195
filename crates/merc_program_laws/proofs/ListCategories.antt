-- The categories of the predicates of the unit `list`, in each mode.
use Rattle.std.proofs.Common.{◌≡◌, ℕ, Bool, true, false, List, [], ◌∷◌, Option, Some, None, refl, ap, ◌∙◌}
use Rattle.std.specs.List.{filter}
use Rattle.merc_base.specs.declared.category.Category.{Category}
use Rattle.merc_base.specs.declared.category.Category.TheVariants.{Det, Semidet, Multi, Nondet}
use Rattle.merc_tree.specs.Types.{TypeExpr}
use Rattle.merc_tree.specs.declared.declarations.ModeDecl.{ModeDecl}
use Rattle.merc_tree.specs.declared.declarations.TypeDef.{TypeDef}
use Rattle.merc_goal_tree.specs.declared.goal.Symbol.{Symbol}
use Rattle.merc_graded_tree.specs.Nodes.{Node, node, Disjunction, Switch, list_of, outputs_of, span_of}
use Rattle.merc_order.specs.Bound.{Bound}
use Rattle.merc_order.specs.Procedures.{bound_at}
use Rattle.merc_grading.specs.Categories.{conjunction_category, disjunction_category, once, switch_category}
use Rattle.merc_grading.specs.Grading.{category_at, graded, split_category}
use Rattle.merc_grading.specs.Known.{are_complete, is_single, symbols_of_type}
use Rattle.merc_grading.specs.Switches.{arm_body, arms_of_groups, find, grouped, least, or_else, regrouped, switched}
use Rattle.merc_program_laws.proofs.ListOrders.{append_modes, length_modes, member_modes, onto_modes}
use Rattle.merc_program_laws.proofs.ListTrees.{nil, cell, append_parts, append_parts_tree, append_whole, append_whole_tree, length_mode, length_tree, member_each, member_each_tree, member_test, member_test_tree, onto_mode, onto_tree, reverse_mode, reverse_tree}

abbrev pub list_symbols : Option (List Symbol)
list_symbols = Some (nil ∷ cell ∷ [])

-- A variable that each of two disjuncts splits is taken, be its symbols complete or not.

abbrev choice_by : Bool → List ℕ → Option ℕ
choice_by complete variables = or_else (least (filter (λ variable. complete) variables)) (least variables)

taken : (complete : Bool) (variable : ℕ) → choice_by complete (variable ∷ variable ∷ []) ≡ choice_by true (variable ∷ variable ∷ [])
taken true variable = refl
taken false variable = refl

abbrev disjuncts_of : Node → List Node
disjuncts_of (node (Disjunction goals) outputs category span) = list_of goals
disjuncts_of other = []

-- Given are the declared types, the modes of each predicate, and the type of each variable.
module _ (declared : List TypeDef) (types : ℕ → TypeExpr) where
  -- the category of a tree in a mode, once its switches are found
  abbrev pub inferred : (ℕ → List ModeDecl) → ModeDecl → Node → Category
  inferred modes mode tree = category_at (graded declared modes types [] (find declared types (bound_at mode.args) tree))

  -- a disjunction as a switch on the variable that is taken
  abbrev switched_on : Bound → Node → Option ℕ → Node
  switched_on bound tree taken =
      node (switched declared types taken (λ variable. Switch variable (arms_of_groups declared types
      (arm_body declared types (outputs_of tree) (span_of tree) (λ several. regrouped declared types 1 (outputs_of tree) (span_of tree) bound (variable ∷ []) several))
      (grouped variable (disjuncts_of tree)))) (disjuncts_of tree)) (outputs_of tree) None (span_of tree)

  abbrev category_on : (ℕ → List ModeDecl) → ModeDecl → Node → Option ℕ → Category
  category_on modes mode tree taken = category_at (graded declared modes types [] (switched_on (bound_at mode.args) tree taken))

  module _ (number : ℕ) (modes : ℕ → List ModeDecl) where
    pub append_whole-inferred : modes number ≡ append_modes → symbols_of_type declared (types 0) ≡ list_symbols → inferred modes append_whole (append_whole_tree number) ≡ Det
    append_whole-inferred are symbols =
        ap (category_on modes append_whole (append_whole_tree number)) (taken (are_complete (symbols_of_type declared (types 0)) (nil ∷ cell ∷ [])) 0)
        ∙ ap (λ (m : List ModeDecl). category_on (λ _. m) append_whole (append_whole_tree number) (Some 0)) are
        ∙ ap (λ (s : Option (List Symbol)). switch_category (are_complete s (nil ∷ cell ∷ [])) (Det ∷ Det ∷ [])) symbols

    pub append_parts-inferred : modes number ≡ append_modes → symbols_of_type declared (types 2) ≡ list_symbols → inferred modes append_parts (append_parts_tree number) ≡ Multi
    append_parts-inferred are symbols =
        ap (λ (m : List ModeDecl). inferred (λ _. m) append_parts (append_parts_tree number)) are
        ∙ ap (λ (s : Option (List Symbol)). disjunction_category (Det ∷ conjunction_category (split_category (is_single s) cell None ∷ Multi ∷ Det ∷ []) ∷ [])) symbols

    pub member_test-inferred : modes number ≡ member_modes → symbols_of_type declared (types 1) ≡ list_symbols → inferred modes member_test (member_test_tree number) ≡ Semidet
    member_test-inferred are symbols =
        ap (category_on modes member_test (member_test_tree number)) (taken (are_complete (symbols_of_type declared (types 1)) (cell ∷ cell ∷ [])) 1)
        ∙ ap (λ (m : List ModeDecl). category_on (λ _. m) member_test (member_test_tree number) (Some 1)) are
        ∙ ap (λ (s : Option (List Symbol)). once (switch_category (are_complete s (cell ∷ [])) (Semidet ∷ []))) symbols

    pub member_each-inferred : modes number ≡ member_modes → symbols_of_type declared (types 1) ≡ list_symbols → inferred modes member_each (member_each_tree number) ≡ Nondet
    member_each-inferred are symbols =
        ap (category_on modes member_each (member_each_tree number)) (taken (are_complete (symbols_of_type declared (types 1)) (cell ∷ cell ∷ [])) 1)
        ∙ ap (λ (m : List ModeDecl). category_on (λ _. m) member_each (member_each_tree number) (Some 1)) are
        ∙ ap (λ (s : Option (List Symbol)). switch_category (are_complete s (cell ∷ [])) (Multi ∷ [])) symbols

    pub length-inferred : modes number ≡ length_modes → symbols_of_type declared (types 0) ≡ list_symbols → inferred modes length_mode (length_tree number) ≡ Det
    length-inferred are symbols =
        ap (category_on modes length_mode (length_tree number)) (taken (are_complete (symbols_of_type declared (types 0)) (nil ∷ cell ∷ [])) 0)
        ∙ ap (λ (m : List ModeDecl). category_on (λ _. m) length_mode (length_tree number) (Some 0)) are
        ∙ ap (λ (s : Option (List Symbol)). switch_category (are_complete s (nil ∷ cell ∷ [])) (Det ∷ Det ∷ [])) symbols

    pub reverse-inferred : modes number ≡ onto_modes → inferred modes reverse_mode (reverse_tree number) ≡ Det
    reverse-inferred are = ap (λ (m : List ModeDecl). inferred (λ _. m) reverse_mode (reverse_tree number)) are

    pub onto-inferred : modes number ≡ onto_modes → symbols_of_type declared (types 0) ≡ list_symbols → inferred modes onto_mode (onto_tree number) ≡ Det
    onto-inferred are symbols =
        ap (category_on modes onto_mode (onto_tree number)) (taken (are_complete (symbols_of_type declared (types 0)) (nil ∷ cell ∷ [])) 0)
        ∙ ap (λ (m : List ModeDecl). category_on (λ _. m) onto_mode (onto_tree number) (Some 0)) are
        ∙ ap (λ (s : Option (List Symbol)). switch_category (are_complete s (nil ∷ cell ∷ [])) (Det ∷ Det ∷ [])) symbols
