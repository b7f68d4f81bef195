-- Where goals stand in `true, X = Y, true`.
use Rattle.std.specs.Prelude.{◌≡◌, List, [], ◌∷◌, refl}
use Rattle.std.proofs.Common.{arith}
use Rattle.merc_goal_tree.specs.Nodes.{Node, no_nodes}
use Rattle.merc_readiness.specs.Sweeps.{AreKnownFrom}
use Rattle.merc_goal_order.specs.Positions.{IsAt, variables_before, IsPlaced, IsNext}
use Rattle.merc_goal_order.specs.GoalsExamples.{no_modes, body, in_body, truth, unready, true_facts, true_known}

abbrev goals : List Node
goals = truth ∷ unready ∷ truth ∷ []

at_second : IsAt goals 1 1
at_second = (omega arith, refl)

behind_last : IsAt goals 3 3
behind_last = (omega arith, refl)

not_at : IsAt goals 1 2 → ⊥
not_at wrong = let is = wrong.1 in cc

-- two occurrences stand before the third goal

before_second : variables_before goals 1 ≡ []
before_second = refl

before_third : variables_before goals 2 ≡ 1 ∷ 2 ∷ []
before_third = refl

placed : IsPlaced 5 goals 2 7
placed = refl

not_placed : IsPlaced 5 goals 2 6 → ⊥
not_placed wrong = cc

next : IsNext truth (true_facts ∷ []) body 0 0 0
next total modes rest known room = refl

known : AreKnownFrom in_body no_modes (truth ∷ []) (true_facts ∷ []) 0
known = record { front = []; back = true_facts ∷ []; at_is = refl; facts_are = refl; known = (true_known, tt) }

next_not : IsNext truth (true_facts ∷ []) body 0 0 1 → ⊥
next_not wrong = let is = wrong in_body no_modes no_nodes known (omega arith) in cc
