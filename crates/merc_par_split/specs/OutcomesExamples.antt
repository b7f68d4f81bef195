-- Worked examples of what comes of goals.
use Rattle.std.specs.Prelude.{◌≡◌, ℕ, true, List, [], ◌∷◌, Some, None, refl}
use Rattle.merc_base.specs.declared.category.Category.TheVariants.{Det}
use Rattle.merc_base.specs.declared.place.Span.{Span}
use Rattle.merc_graded_tree.specs.declared.basic.BasicGoal.TheVariants.{Test, Assign, Wait, Signal}
use Rattle.merc_graded_tree.specs.declared.entries.Running.TheVariants.{Sequential, Parallel}
use Rattle.merc_graded_tree.specs.Nodes.{Node, node, Basic, Conjunction, nodes_of}
use Rattle.merc_rights.specs.declared.rights.Awaited.{Awaited}
use Rattle.merc_par_split.specs.Outcomes.{turned, is_passed, outcome}
use Rattle.merc_rights.specs.Waits.{fresh}
use Rattle.merc_rights.specs.Rights.{Right, right_to, in_place_of}

abbrev nowhere : Span
nowhere = record { first = 0; past = 0; line = 1 }

-- a goal that uses the variables 1 and 2 and binds 1, and one that uses 2 alone
abbrev copies : Node
copies = node (Basic (Assign 1 2)) (1 ∷ []) (Some Det) nowhere

abbrev tests : Node
tests = node (Basic (Test 2 2)) [] None nowhere

abbrev wait : ℕ → ℕ → Node
wait variable conjunct = node (Basic (Wait variable conjunct)) [] (Some Det) nowhere

abbrev signal : ℕ → ℕ → Node
signal variable conjunct = node (Basic (Signal variable conjunct)) [] (Some Det) nowhere

-- a right whose variable is used behind
abbrev lasting : Right → Awaited
lasting right = record { right = right; later = true }

-- a goal behind uses the variable

turned-example : turned (nodes_of (tests ∷ copies ∷ [])) (fresh (right_to 4 1)) ≡ lasting (right_to 4 1)
turned-example = refl

turned-fresh : turned (nodes_of (tests ∷ [])) (fresh (right_to 4 1)) ≡ fresh (right_to 4 1)
turned-fresh = refl

-- behind an arm that does not use it

is_passed-example : is_passed tests (lasting (right_to 4 1)) ≡ true
is_passed-example = refl

is_passed-not : is_passed tests (lasting (right_to 4 2)) ≡ true → ⊥
is_passed-not used_in_it = cc

-- waits before a goal, and signals behind it
outcome-basic : outcome 0 (fresh (right_to 4 2) ∷ []) (right_to 5 1 ∷ []) copies ≡ (in_place_of copies (wait 2 4 ∷ copies ∷ signal 1 5 ∷ []), [])
outcome-basic = refl

-- `copies, tests`: the wait stands before the first goal that uses the variable
abbrev in_turn : List Node → Node
in_turn goals = node (Conjunction Sequential (nodes_of goals)) (1 ∷ []) (Some Det) nowhere

outcome-in_turn : outcome 0 (fresh (right_to 4 1) ∷ []) [] (in_turn (tests ∷ copies ∷ []))
    ≡ (in_turn (tests ∷ in_place_of copies (wait 1 4 ∷ copies ∷ []) ∷ []), [])
outcome-in_turn = refl

-- `tests & tests` at the site 3 has neither cells nor moves
outcome-beside : outcome 3 [] [] (node (Conjunction (Parallel None) (nodes_of (tests ∷ tests ∷ []))) [] (Some Det) nowhere)
    ≡ (node (Conjunction (Parallel (Some (record { number = 3 }))) (nodes_of (tests ∷ tests ∷ []))) [] (Some Det) nowhere, record { children = 2; cells = []; moves = [] } ∷ [])
outcome-beside = refl
