-- What the definitions of cells and of the branches that wait for them say.
use Rattle.std.proofs.Common.{◌≡◌, ℕ, zero, suc, Bool, true, false, List, [], ◌∷◌, length, Option, Some, None, refl, ap, arith}
use Rattle.merc_script.specs.declared.outcome.Outcome.{Outcome}
use Rattle.merc_script.specs.declared.outcome.Outcome.TheVariants.{Ok as Fine, Raise, Limit, Starved, NoMemory}
use Rattle.merc_core.specs.declared.branch.Branch.{Branch}
use Rattle.merc_core.specs.declared.cell.Cell.{Cell}
use Rattle.merc_core.specs.declared.cell.Meeting.TheVariants.{Full, Poisoned, Open}
use Rattle.merc_core.specs.Queues.{waiting_of, starved, filled, spoiled, parked_at, meeting_at, meeting_of, behind_with, spoil_at, cells_after, list_after, first_stored, stored_from}

-- a first child with this end and so many steps
abbrev first_child : Option Outcome → ℕ → Branch
first_child ended steps = record { join = 1; child = 1; at = 3; ended = ended; steps = steps; signals = 9 ∷ [] }

abbrev one : Branch
one = first_child None 5

abbrev two : Branch
two = record { join = 1; child = 2; at = 4; ended = None; steps = 6; signals = [] }

abbrev two_starved : Branch
two_starved = record { join = 1; child = 2; at = 4; ended = Some Starved; steps = 6; signals = [] }

abbrev cell : Bool → Bool → List Branch → Cell
cell is_full is_poisoned waiting = record { is_full = is_full; is_poisoned = is_poisoned; waiting = waiting }

waiting_of-each : (waiting_of (Some (cell true true (one ∷ two ∷ []))) ≡ one ∷ two ∷ []) × (waiting_of None ≡ [])
waiting_of-each = (refl, refl)

-- nothing of it changes but its end
starved-example : starved one ≡ first_child (Some Starved) 5
starved-example = refl

starved-again : starved (first_child (Some Limit) 5) ≡ first_child (Some Starved) 5
starved-again = refl

-- what was poisoned stays so
filled-each : (filled (Some (cell false false (one ∷ []))) ≡ Some (cell true false [])) × (filled (Some (cell false true [])) ≡ Some (cell true true [])) × (filled None ≡ None)
filled-each = (refl, refl, refl)

-- those that waited wait no more
filled-counterexample : filled (Some (cell false false (one ∷ []))) ≡ Some (cell true false (one ∷ [])) → ⊥
filled-counterexample = λ same. absurd (let waiting : 0 ≡ 1 = ap (λ (found : Option Cell). length (waiting_of found)) same in omega (arith, waiting))

-- what was full stays so
spoiled-each : (spoiled (Some (cell false false (one ∷ []))) ≡ Some (cell false true [])) × (spoiled (Some (cell true false [])) ≡ Some (cell true true [])) × (spoiled None ≡ None)
spoiled-each = (refl, refl, refl)

-- behind those that wait
parked_at-each : (parked_at (two ∷ []) (Some (cell false true (one ∷ []))) ≡ Some (cell false true (one ∷ two ∷ []))) × (parked_at (two ∷ []) None ≡ None)
parked_at-each = (refl, refl)

-- poison counts only where the cell is not full
meeting_at-each : (meeting_at true true ≡ Full) × (meeting_at true false ≡ Full) × (meeting_at false true ≡ Poisoned) × (meeting_at false false ≡ Open)
meeting_at-each = (refl, refl, refl, refl)

meeting_of-each : (meeting_of None ≡ Open) × (meeting_of (Some (cell true false [])) ≡ Full) × (meeting_of (Some (cell false true [])) ≡ Poisoned)
meeting_of-each = (refl, refl, refl)

-- the steps of the children come to its own
behind_with-fine : behind_with (Fine 4) one ≡ first_child None 9
behind_with-fine = refl

behind_with-raise : behind_with (Raise 7 4) one ≡ first_child (Some (Raise 7 9)) 5
behind_with-raise = refl

behind_with-others : (behind_with Limit one ≡ first_child (Some Limit) 5) × (behind_with Starved one ≡ first_child (Some Starved) 5) × (behind_with NoMemory one ≡ first_child (Some NoMemory) 5)
behind_with-others = (refl, refl, refl)

-- at each cell but the first a branch waits
abbrev cells : ℕ → Option Cell
cells zero = None
cells (suc zero) = Some (cell false false (one ∷ []))
cells (suc (suc number)) = Some (cell false false (two ∷ []))

spoil_at-each : (spoil_at 1 cells 1 ≡ Some (cell false true [])) × (spoil_at 1 cells 2 ≡ Some (cell false false (two ∷ []))) × (spoil_at 0 cells 0 ≡ None)
spoil_at-each = (refl, refl, refl)

cells_after-each : (cells_after (1 ∷ 2 ∷ []) cells 1 ≡ Some (cell false true [])) × (cells_after (1 ∷ 2 ∷ []) cells 2 ≡ Some (cell false true [])) × (cells_after (1 ∷ 2 ∷ []) cells 3 ≡ cells 3)
cells_after-each = (refl, refl, refl)

-- in the order in which the cells are spoiled, behind those of the list
list_after-example : list_after (2 ∷ 1 ∷ []) cells (one ∷ []) ≡ one ∷ two_starved ∷ first_child (Some Starved) 5 ∷ []
list_after-example = refl

-- nobody waits for a cell that was spoiled, or that is not there
list_after-again : list_after (2 ∷ 2 ∷ 0 ∷ []) cells [] ≡ two_starved ∷ []
list_after-again = refl

-- the first that is stored counts
first_stored-each : (first_stored None Limit ≡ Some Limit) × (first_stored (Some (Fine 3)) Limit ≡ Some (Fine 3))
first_stored-each = (refl, refl)

stored_from-example : stored_from 1 2 Limit (None ∷ None ∷ None ∷ []) ≡ None ∷ Some Limit ∷ None ∷ []
stored_from-example = refl

stored_from-again : stored_from 1 2 Limit (None ∷ Some (Fine 3) ∷ []) ≡ None ∷ Some (Fine 3) ∷ []
stored_from-again = refl

-- there is no third child
stored_from-past : stored_from 1 3 Limit (None ∷ None ∷ []) ≡ None ∷ None ∷ []
stored_from-past = refl
