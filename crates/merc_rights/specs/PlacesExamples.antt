-- Worked examples of the places of goals' parts.
use Rattle.std.specs.Prelude.{◌≡◌, ℕ, List, [], ◌∷◌, ◌++◌, Some, None, refl}
use Rattle.merc_base.specs.declared.category.Category.TheVariants.{Det}
use Rattle.merc_base.specs.declared.place.Span.{Span}
use Rattle.merc_graded_tree.specs.declared.basic.BasicGoal.TheVariants.{Test, Assign}
use Rattle.merc_graded_tree.specs.declared.entries.Label.{Label}
use Rattle.merc_graded_tree.specs.declared.entries.Root.TheVariants.{Conjunction as ConjunctionRoot}
use Rattle.merc_graded_tree.specs.declared.entries.Running.TheVariants.{Sequential}
use Rattle.merc_graded_tree.specs.Nodes.{Node, node, Basic, Conjunction, nodes_of}
use Rattle.merc_rights.specs.Places.{Lies, starts_of}

abbrev nowhere : Span
nowhere = record { first = 0; past = 0; line = 1 }

abbrev copies : Node
copies = node (Basic (Assign 1 2)) (1 ∷ []) (Some Det) nowhere

abbrev tests : Node
tests = node (Basic (Test 2 2)) [] None nowhere

abbrev in_turn : List Node → Node
in_turn goals = node (Conjunction Sequential (nodes_of goals)) (1 ∷ []) (Some Det) nowhere

-- the label of such a conjunction
abbrev label : ℕ → Label
label count = record { root = ConjunctionRoot Sequential count; outputs = 1 ∷ []; category = Some Det; span = nowhere }

-- labels among others

Lies-example : Lies (label 2 ∷ label 3 ∷ label 4 ∷ []) 1 (label 3 ∷ [])
Lies-example = record { front = label 2 ∷ []; back = label 4 ∷ []; are = refl; count = refl }

none_are : (front back : List Label) → [] ≡ front ++ (label 2 ∷ back) → ⊥
none_are [] back are = cc
none_are (first ∷ rest) back are = cc

Lies-not : Lies [] 0 (label 2 ∷ []) → ⊥
Lies-not lies = none_are lies.front lies.back lies.are

starts_of-example : starts_of 3 (copies ∷ in_turn (tests ∷ copies ∷ []) ∷ []) ≡ 3 ∷ 4 ∷ 7 ∷ []
starts_of-example = refl
