-- The start of a run.
use Rattle.std.specs.Prelude.{◌≡◌, ℕ, ◌+◌, ◌-◌, ◌≤◌, ◌<◌, ◌^◌, false, List, [], ◌∷◌, length, replicate, Option, Some, None, slice_get, IsSome, vec_capacity}
use Rattle.std.specs.declared.alloc.Global.{Global}
use Rattle.std.specs.declared.vec.Vec.{Vec}
use Rattle.merc_script.specs.declared.items.Item.{Item}
use Rattle.merc_script.specs.declared.items.Item.TheVariants.{Tick, Wait, Signal, Fork, End}
use Rattle.merc_script.specs.Script.{Script, Cell as ScriptCell, Move, size}
use Rattle.merc_core.specs.declared.branch.Branch.{Branch}
use Rattle.merc_core.specs.declared.cell.Cell.{Cell}
use Rattle.merc_core.specs.declared.join.Join.{Join}
use Rattle.merc_core.specs.declared.state.Spare.{Spare}
use Rattle.merc_core.specs.declared.worker.Worker.{Worker}
use Rattle.merc_core.specs.Standing.{StandsAt}
use Rattle.merc_core.specs.Forking.{past_script, past_scripts, newborn}
use Rattle.merc_core.specs.Mirror.{branches_made, rights_made}

-- a table has the place past each script that stands among items
abbrev pub IsPast : List Item → List ℕ → Type 0
IsPast items past = (place : ℕ) (script : Script) → StandsAt items place script → slice_get past place ≡ Some (place + size script)

-- the place past what belongs to an item, from the place behind it on: nothing to an end, to a Fork its children and what follows them
abbrev pub past_item : List ℕ → Item → ℕ → ℕ
past_item past (End end) place = place
past_item past Tick place = past_script past place
past_item past (Wait cell) place = past_script past place
past_item past (Signal cell) place = past_script past place
past_item past (Fork fork) place = past_script past (past_scripts past place fork.children)

-- a cell that is neither full nor poisoned, and for which no branch waits
abbrev pub open_cell : Cell
open_cell = record { is_full = false; is_poisoned = false; waiting = [] }

abbrev pub IsOpen : Option Cell → Type 0
IsOpen None = Unit {0}
IsOpen (Some cell) = cell ≡ open_cell

-- each cell is open, and there is one for each Wait among items
pub record AreOpen (items : List Item) (cells : ℕ → Option Cell) : Type 0 where
  pub each : (cell : ℕ) → IsOpen (cells cell)
  pub waits : (place cell : ℕ) → slice_get items place ≡ Some (Wait cell) → IsSome (cells cell)

-- what the Forks among items make, each so much
abbrev pub made_at : (ℕ → List ScriptCell → List Move → ℕ) → Item → ℕ
made_at each (Fork fork) = each fork.children fork.cells fork.moves
made_at each Tick = 0
made_at each (Wait cell) = 0
made_at each (Signal cell) = 0
made_at each (End end) = 0

abbrev pub made_among : (ℕ → List ScriptCell → List Move → ℕ) → List Item → ℕ
made_among each [] = 0
made_among each (item ∷ items) = made_at each item + made_among each items

-- spare nodes for all that the Forks among items make
pub record IsSpare (items : List Item) (spare : Spare) : Type 0 where
  pub branches : length spare.branches ≡ made_among branches_made items
  pub outcomes : length spare.outcomes ≡ made_among branches_made items
  pub rights : length spare.rights ≡ made_among rights_made items
  pub few : length spare.rights < 2 ^ 63

-- the root's branch, child 1 of the outermost join
abbrev pub root_branch : Branch
root_branch = newborn 0 1 0 []

abbrev pub worker_with : List Branch → Worker
worker_with hand = record { hand = hand; held = None; list = [] }

-- so many workers, of which the first runs the root's branch
abbrev pub first_workers : ℕ → List Worker
first_workers count = worker_with (root_branch ∷ []) ∷ replicate (count - 1) (worker_with [])

-- the join of the root's branch
abbrev pub outermost_join : Join
outermost_join = record { limit = 0; outcomes = None ∷ []; parent = [] }

-- the outermost join alone, with room for so many more
pub record AreFirst (forks : ℕ) (joins : Vec Join Global) : Type 0 where
  pub alone : joins.items ≡ outermost_join ∷ []
  pub room : forks + 1 ≤ vec_capacity joins
