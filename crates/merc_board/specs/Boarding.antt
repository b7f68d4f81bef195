-- What the calls of a board ask and answer, over what is known of one seat and one branch.
use Rattle.std.specs.Prelude.{◌≡◌, ◌⊎◌, ℕ, suc, ◌+◌, ◌*◌, ◌≤◌, Bool, true, false, List, map, Option, Some, None, length, slice_get}
use Rattle.merc_value.specs.Block.{BlockData}
use Rattle.merc_script.specs.declared.outcome.Outcome.{Outcome}
use Rattle.merc_script.specs.declared.outcome.Outcome.TheVariants.{Ok as Fine, Raise, Limit, Starved, NoMemory}
use Rattle.merc_script.specs.declared.cells.Move.{Move}
use Rattle.merc_script.specs.Script.{Script, Ends, WaitThen, ForkThen, Cell, Children, ends, count}
use Rattle.merc_script.specs.Places.{Place, left_of}
use Rattle.merc_script.specs.Joining.{joined}
use Rattle.merc_board.specs.declared.fork.SharedCell.{SharedCell}
use Rattle.merc_board.specs.declared.fork.Handover.{Handover}
use Rattle.merc_board.specs.declared.branch.Woken.{Woken}
use Rattle.merc_board.specs.declared.branch.Woken.TheVariants.{No, Value, Starved as WokenStarved}
use Rattle.merc_board.specs.declared.branch.Waited.{Waited}
use Rattle.merc_board.specs.declared.branch.Waited.TheVariants.{Ready, Starved as WaitStarved, Parked}
use Rattle.merc_board.specs.declared.branch.Pace.{Pace}
use Rattle.merc_board.specs.declared.branch.Pace.TheVariants.{On, Over, Cancelled}
use Rattle.merc_board.specs.declared.branch.Resumed.{Resumed}
use Rattle.merc_board.specs.declared.branch.Resumed.TheVariants.{Outcome as JoinedTo, Restart}
use Rattle.merc_board.specs.Rights.{Rights, child_rights, parent_rights}
use Rattle.merc_board.specs.Going.{next, child_place}

-- A branch stands behind a wait, its load still at it, and is given the value of the cell.
pub record IsGiven (own awaits : Place → Type 0) (shows : ℕ → BlockData → Type 0) (value : BlockData) : Type 0 where
  pub at : Place
  pub cell : ℕ
  pub rest : Script
  pub left : left_of at ≡ Some (WaitThen cell rest)
  pub owned : own (next at)
  pub waiting : awaits at
  pub shown : shows cell value

-- What a worker finds: a branch whose load stands at the branch's own place, or one that waited, as it was woken.
abbrev pub IsFound : (own stands awaits : Place → Type 0) → (shows : ℕ → BlockData → Type 0) → (starved : Type 0) → Woken → Type 0
IsFound own stands awaits shows starved No = (at : Place) × own at × stands at
IsFound own stands awaits shows starved (Value value) = IsGiven own awaits shows value
IsFound own stands awaits shows starved WokenStarved = starved

-- How a branch may end: at its script's end, or for want of memory wherever it is, or as one that starved.
pub data MayEnd (own stands : Place → Type 0) (runs starved : Type 0) : Outcome → Type 0 where
  at_end : (at : Place) (end : Outcome) → own at → left_of at ≡ Some (Ends end) → stands at → MayEnd own stands runs starved end
  lost : runs → MayEnd own stands runs starved NoMemory
  lost_at : (at : Place) → own at → MayEnd own stands runs starved NoMemory
  lost_starved : starved → MayEnd own stands runs starved NoMemory
  starves : starved → MayEnd own stands runs starved Starved

-- What a parent comes to behind its fork: the joined outcome of its children, or want of memory, or a value that does not come.
abbrev pub IsJoined : (own : Place → Type 0) → (runs starved : Type 0) → Place → ℕ → Children → Outcome → Type 0
IsJoined own runs starved at limit children (Fine steps) = (joined limit (ends children) ≡ Fine steps) × own (next at)
IsJoined own runs starved at limit children (Raise text steps) = (joined limit (ends children) ≡ Raise text steps) × own (next at)
IsJoined own runs starved at limit children Limit = (joined limit (ends children) ≡ Limit) × own (next at)
IsJoined own runs starved at limit children Starved = starved
IsJoined own runs starved at limit children NoMemory = runs

abbrev pub IsResumed : (own : Place → Type 0) → (runs starved : Type 0) → Place → ℕ → Children → Resumed → Type 0
IsResumed own runs starved at limit children (JoinedTo outcome) = IsJoined own runs starved at limit children outcome
IsResumed own runs starved at limit children Restart = runs

module _ {L H : Type 0} where
  -- the branch goes on with its cell's value, or it starved, or the seat's worker has no branch
  abbrev pub IsWaited : (free : Type 0) → (own : H → Place → Type 0) → (awaits : L → Rights → Place → Type 0) → (rights : H → Rights) → (shows : ℕ → BlockData → Type 0)
      → (starved : H → Type 0) → Waited L H → Type 0
  IsWaited free own awaits rights shows starved (Ready branch value) = IsGiven (own branch.value.hold) (awaits branch.value.load (rights branch.value.hold)) shows value
  IsWaited free own awaits rights shows starved (WaitStarved branch) = starved branch.value.hold
  IsWaited free own awaits rights shows starved Parked = free

-- these are the cells of a fork, in order
pub record AreCells (shared : List SharedCell) (cells : List Cell) : Type 0 where
  pub producers : map (λ one. one.producer) shared ≡ map (λ cell. cell.producer) cells
  pub consumers : map (λ one. one.consumer) shared ≡ map (λ cell. cell.consumer) cells

abbrev pub numbers_of : List Cell → List ℕ
numbers_of cells = map (λ cell. cell.cell) cells

-- A parent stands at a fork, and loads at the beginnings of its children's scripts, each with the rights that are to be the child's.
pub record Prepares {L : Type 0} (own : Place → Type 0) (forked stands : L → Rights → Place → Type 0) (load : L) (rights : Rights) (shared : List SharedCell) (given : List Handover) (limit : ℕ) (loads : List L) : Type 0 where
  pub at : Place
  pub cells : List Cell
  pub moves : List Move
  pub children : Children
  pub rest : Script
  pub owned : own at
  pub left : left_of at ≡ Some (ForkThen limit cells moves children rest)
  pub are_cells : AreCells shared cells
  pub parent : forked load (parent_rights shared given (numbers_of cells) rights) at
  pub same_count : length loads ≡ count children
  pub some : 1 ≤ length loads
  pub few : length loads ≤ 64
  pub each : (child : ℕ) (one : L) → slice_get loads child ≡ Some one
      → stands one (child_rights shared given (numbers_of cells) rights (suc child)) (child_place at (suc child))

-- Steps may be reported of a branch: `made` of them were made, which are a slice at most, and the seat may run one; the root's are bounded by its own limit.
pub record MayReport (may_run : Type 0) (is_root : Bool) (ticks made : ℕ) : Type 0 where
  pub within : made ≤ ticks
  pub allowed : (is_root ≡ true) ⊎ ((made ≡ 0) ⊎ ((made ≤ 255) × may_run))

-- where a branch other than the root goes on, the seat may run a slice of it
abbrev pub MayGoOn : (may_run : Type 0) → Bool → Pace → Type 0
MayGoOn may_run true On = Unit {0}
MayGoOn may_run false On = may_run
MayGoOn may_run is_root Over = Unit {0}
MayGoOn may_run is_root Cancelled = Unit {0}

-- where it does not, it starved
abbrev pub IsCut : (starved : Type 0) → Pace → Type 0
IsCut starved On = Unit {0}
IsCut starved Over = starved
IsCut starved Cancelled = starved

-- what a seat is said to have made, it has made, and where it may run it still may
abbrev pub KeepsCount : {S : Type 0} → (has_made : S → ℕ → Type 0) → (may_run : S → Type 0) → S → S → Type 0
KeepsCount has_made may_run old new = ((made : ℕ) → has_made old made → has_made new made) × (may_run old → may_run new)
