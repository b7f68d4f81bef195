-- The lists in which the core keeps its branches.
use Rattle.std.specs.Prelude.{ℕ, suc, ◌+◌, Bool, true, false, List, [], ◌∷◌, ◌++◌, map, Option, Some, None, if◌then◌else◌, nat_eq}
use Rattle.merc_script.specs.declared.outcome.Outcome.{Outcome}
use Rattle.merc_script.specs.declared.outcome.Outcome.TheVariants.{Ok as Fine, Raise, Limit, Starved, NoMemory}
use Rattle.merc_core.specs.declared.branch.Branch.{Branch}
use Rattle.merc_core.specs.declared.cell.Cell.{Cell}
use Rattle.merc_core.specs.declared.cell.Meeting.{Meeting}
use Rattle.merc_core.specs.declared.cell.Meeting.TheVariants.{Full, Poisoned, Open}

-- the branches that wait for a cell
abbrev pub waiting_of : Option Cell → List Branch
waiting_of None = []
waiting_of (Some cell) = cell.waiting

abbrev pub starved : Branch → Branch
starved b = record b { ended = Some Starved }

-- a cell after a signal, and after its producer ended without one
abbrev pub filled : Option Cell → Option Cell
filled None = None
filled (Some cell) = Some (record { is_full = true; is_poisoned = cell.is_poisoned; waiting = [] })

abbrev pub spoiled : Option Cell → Option Cell
spoiled None = None
spoiled (Some cell) = Some (record { is_full = cell.is_full; is_poisoned = true; waiting = [] })

-- a cell at which branches are parked
abbrev pub parked_at : List Branch → Option Cell → Option Cell
parked_at branches None = None
parked_at branches (Some cell) = Some (record cell { waiting = cell.waiting ++ branches })

-- what a branch finds at a cell
abbrev pub meeting_at : Bool → Bool → Meeting
meeting_at true poisoned = Full
meeting_at false true = Poisoned
meeting_at false false = Open

abbrev pub meeting_of : Option Cell → Meeting
meeting_of None = Open
meeting_of (Some cell) = meeting_at cell.is_full cell.is_poisoned

-- a parent behind its Fork, whose join gave this outcome
abbrev pub behind_with : Outcome → Branch → Branch
behind_with (Fine gained) b = record b { steps = b.steps + gained }
behind_with (Raise text made) b = record b { ended = Some (Raise text (b.steps + made)) }
behind_with Limit b = record b { ended = Some Limit }
behind_with Starved b = record b { ended = Some Starved }
behind_with NoMemory b = record b { ended = Some NoMemory }

-- cells of which one is spoiled
abbrev pub spoil_at : ℕ → (ℕ → Option Cell) → ℕ → Option Cell
spoil_at cell cells other = if nat_eq cell other then spoiled (cells cell) else cells other

-- cells of which these are spoiled one after the other, and a list behind which those go that waited for them
abbrev pub cells_after : List ℕ → (ℕ → Option Cell) → ℕ → Option Cell
cells_after [] cells = cells
cells_after (first ∷ rest) cells = cells_after rest (spoil_at first cells)

abbrev pub list_after : List ℕ → (ℕ → Option Cell) → List Branch → List Branch
list_after [] cells list = list
list_after (first ∷ rest) cells list = list_after rest (spoil_at first cells) (list ++ map starved (waiting_of (cells first)))

-- an outcome that is stored where none is
abbrev pub first_stored : Option Outcome → Outcome → Option Outcome
first_stored None o = Some o
first_stored (Some before) o = Some before

-- an outcome that is stored for a child, where the children are numbered from this number on
abbrev pub stored_from : ℕ → ℕ → Outcome → List (Option Outcome) → List (Option Outcome)
stored_from number child o [] = []
stored_from number child o (first ∷ rest) = (if nat_eq child number then first_stored first o else first) ∷ stored_from (suc number) child o rest
