-- Worked examples of rights to wait.
use Rattle.std.specs.Prelude.{◌≡◌, ◌==◌, true, [], ◌∷◌, Some, None, refl}
use Rattle.merc_base.specs.declared.category.Category.TheVariants.{Det}
use Rattle.merc_base.specs.declared.place.Span.{Span}
use Rattle.merc_graded_tree.specs.declared.basic.BasicGoal.TheVariants.{Test, Assign}
use Rattle.merc_graded_tree.specs.Nodes.{Node, node, Basic, nodes_of}
use Rattle.merc_rights.specs.declared.rights.Awaited.{Awaited}
use Rattle.merc_rights.specs.Rights.{Right, right_to}
use Rattle.merc_rights.specs.Waits.{rights_of, fresh, those_waits, others, moves, stays}

abbrev nowhere : Span
nowhere = record { first = 0; past = 0; line = 1 }

-- a goal that uses the variables 1 and 2 and binds 1, and one that uses 2 alone
abbrev copies : Node
copies = node (Basic (Assign 1 2)) (1 ∷ []) (Some Det) nowhere

abbrev tests : Node
tests = node (Basic (Test 2 2)) [] None nowhere

-- a right whose variable is used behind
abbrev lasting : Right → Awaited
lasting right = record { right = right; later = true }

rights_of-example : rights_of (fresh (right_to 4 1) ∷ lasting (right_to 5 2) ∷ []) ≡ right_to 4 1 ∷ right_to 5 2 ∷ []
rights_of-example = refl

those_waits-example : those_waits (λ variable. variable == 2) (fresh (right_to 4 1) ∷ lasting (right_to 5 2) ∷ []) ≡ lasting (right_to 5 2) ∷ []
those_waits-example = refl

those_waits-not : those_waits (others (λ variable. variable == 1)) (fresh (right_to 4 1) ∷ []) ≡ fresh (right_to 4 1) ∷ [] → ⊥
those_waits-not the_one = cc

-- into the one conjunct that uses the variable, where nothing uses it behind

moves-example : moves (nodes_of (tests ∷ copies ∷ [])) (fresh (right_to 4 1)) ≡ true
moves-example = refl

moves-not_for_two : moves (nodes_of (tests ∷ copies ∷ [])) (fresh (right_to 4 2)) ≡ true → ⊥
moves-not_for_two both = cc

stays-example : stays (nodes_of (tests ∷ copies ∷ [])) (lasting (right_to 4 1)) ≡ true
stays-example = refl
