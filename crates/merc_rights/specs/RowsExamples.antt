-- Worked examples of items by number and of the variables of parts.
use Rattle.std.specs.Prelude.{◌≡◌, ◌==◌, ℕ, true, false, List, [], ◌∷◌, ◌++◌, length, Some, None, refl}
use Rattle.merc_base.specs.declared.category.Category.TheVariants.{Det}
use Rattle.merc_base.specs.declared.place.Span.{Span}
use Rattle.merc_graded_tree.specs.declared.basic.BasicGoal.TheVariants.{Assign, Test}
use Rattle.merc_graded_tree.specs.declared.entries.Root.TheVariants.{Switch as SwitchRoot, Conjunction as ConjunctionRoot}
use Rattle.merc_graded_tree.specs.declared.entries.Running.TheVariants.{Sequential}
use Rattle.merc_graded_tree.specs.Nodes.{Node, node, Basic, Conjunction, nodes_of}
use Rattle.merc_rights.specs.Rows.{row_of, next_from, numbers_from, each_from, pairs_from, Tells}
use Rattle.merc_rights.specs.Uses.{uses, uses_of}

abbrev nowhere : Span
nowhere = record { first = 0; past = 0; line = 1 }

abbrev items : List (ℕ × ℕ)
items = (4, 7) ∷ (5, 8) ∷ (4, 9) ∷ []

abbrev numbers : List ℕ
numbers = 3 ∷ 5 ∷ 3 ∷ 3 ∷ []

-- the items of a number, in order

row_of-example : row_of 4 items ≡ 7 ∷ 9 ∷ []
row_of-example = refl

row_of-not : row_of 6 items ≡ 7 ∷ [] → ⊥
row_of-not other_number = cc

-- an item before the place does not count

next_from-example : next_from (λ item. item == 3) 1 0 numbers ≡ Some 2
next_from-example = refl

next_from-not : next_from (λ item. item == 5) 2 0 numbers ≡ Some 1 → ⊥
next_from-not before_it = cc

numbers_from-example : numbers_from (λ item. item == 3) 1 0 numbers ≡ 2 ∷ 3 ∷ []
numbers_from-example = refl

numbers_from-not : numbers_from (λ item. item == 4) 0 0 numbers ≡ 1 ∷ [] → ⊥
numbers_from-not no_such_item = cc

-- each item at its number

each_from-example : each_from (λ number item. item ∷ number ∷ []) 4 (7 ∷ 8 ∷ []) ≡ 7 ∷ 4 ∷ 8 ∷ 5 ∷ []
each_from-example = refl

pairs_from-example : pairs_from 2 ((7 ∷ 8 ∷ []) ∷ [] ∷ (7 ∷ []) ∷ []) ≡ (7, 2) ∷ (8, 2) ∷ (7, 4) ∷ []
pairs_from-example = refl

-- The lists are numbered from 0.

Tells-example : Tells ((7, 0) ∷ (8, 0) ∷ (7, 1) ∷ []) ((7 ∷ 8 ∷ []) ∷ (7 ∷ []) ∷ [])
Tells-example variable = refl

Tells-not : Tells ((7, 1) ∷ []) ((7 ∷ []) ∷ []) → ⊥
Tells-not tells = let wrong : ◌≡◌ {A = List ℕ} (1 ∷ []) (0 ∷ []) = tells 7 in cc

-- the variables of a part by itself, and those of all parts, inner ones first

uses-example : uses (SwitchRoot 8 []) ≡ 8 ∷ []
uses-example = refl

uses-not : uses (ConjunctionRoot Sequential 2) ≡ 0 ∷ [] → ⊥
uses-not of_its_goals = cc

abbrev basics : Node
basics =
    node (Conjunction Sequential (nodes_of (node (Basic (Assign 1 2)) (1 ∷ []) (Some Det) nowhere ∷ node (Basic (Test 2 2)) [] None nowhere ∷ []))) (1 ∷ []) None nowhere

uses_of-example : uses_of basics ≡ (1 ∷ 2 ∷ []) ∷ (2 ∷ 2 ∷ []) ∷ [] ∷ []
uses_of-example = refl
