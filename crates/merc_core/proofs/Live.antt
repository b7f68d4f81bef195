-- Why some event is accepted until the outermost join is done: each branch that is parked is parked for one that comes before it where each Fork's children run
-- before what follows.
use Rattle.std.proofs.Common.{◌≡◌, ℕ, suc, ◌+◌, ◌≤◌, ◌<◌, ◌⊎◌, true, false, List, [], ◌∷◌, Some, None, length}
use Rattle.std.specs.Prelude.{Option, slice_get, if◌then◌else◌, nat_eq, nat_lt}
use Rattle.std.specs.List.{AllByRecursion}
use Rattle.merc_script.specs.declared.outcome.Outcome.{Outcome}
use Rattle.merc_script.specs.Script.{Script, Ends, TickThen, WaitThen, SignalThen, ForkThen, Children, NoChild, Child, size, sizes, count}
use Rattle.merc_core.specs.Rights.{has, has_in}
use Rattle.merc_core.specs.World.{Location, Listed, Runs, Holds, AtCell, AtJoin, Spot, Join, Stored, World, outermost, stored_at, gathered}

-- the place behind a child, in the order of all items and ends, where child `from` begins at `at`
abbrev pub behind_child : ℕ → ℕ → ℕ → Children → ℕ
behind_child at from child NoChild = at
behind_child at from child (Child first others) = if nat_eq child from then at + size first else behind_child (at + size first) (suc from) child others

-- when each cell is due: the place behind its producer's script
abbrev mutual
  pub Timed : (ℕ → ℕ) → ℕ → Script → Type 0
  Timed due at (Ends o) = Unit {0}
  Timed due at (TickThen rest) = Timed due (suc at) rest
  Timed due at (WaitThen cell rest) = Timed due (suc at) rest
  Timed due at (SignalThen cell rest) = Timed due (suc at) rest
  Timed due at (ForkThen limit cells moves children rest) =
      AllByRecursion (λ one. due one.cell ≡ behind_child (suc at) 1 one.producer children) cells × TimedAll due (suc at) children × Timed due (suc at + sizes children) rest

  pub TimedAll : (ℕ → ℕ) → ℕ → Children → Type 0
  TimedAll due at NoChild = Unit {0}
  TimedAll due at (Child first others) = Timed due at first × TimedAll due (at + size first) others

abbrev pub AnyOf : {A : Type 0} → (A → Type 0) → List A → Type 0
AnyOf Is [] = ⊥
AnyOf Is (x ∷ xs) = Is x ⊎ AnyOf Is xs

abbrev pub Owes : ℕ → Spot → Type 0
Owes cell x = has cell x.branch.signals ≡ true

abbrev pub InPlace : ℕ → ℕ → Spot → Type 0
InPlace join child x = (x.branch.join ≡ join) × (x.branch.child ≡ child)

-- a cell is full or poisoned, or some branch has the right to signal it
pub data Served (full : List ℕ) (poisoned : List (List ℕ)) (pool : List Spot) (cell : ℕ) : Type 0 where
  is_full : has cell full ≡ true → Served full poisoned pool cell
  is_poisoned : has_in cell poisoned ≡ true → Served full poisoned pool cell
  is_owed : AnyOf (Owes cell) pool → Served full poisoned pool cell

-- the cells that a branch may wait for, and the one at which it is parked
abbrev pub needs : Location → List ℕ → List ℕ
needs (AtCell cell) waits = cell ∷ waits
needs (Listed v) waits = waits
needs (Runs v) waits = waits
needs (Holds v join) waits = waits
needs (AtJoin join) waits = waits

abbrev pub InRange : ℕ → Location → Type 0
InRange workers (Listed v) = nat_lt v workers ≡ true
InRange workers (Runs v) = nat_lt v workers ≡ true
InRange workers (Holds v join) = nat_lt v workers ≡ true
InRange workers (AtCell cell) = Unit {0}
InRange workers (AtJoin join) = Unit {0}

-- before the place behind a join, and behind it
abbrev pub BeforeIn : ℕ → Option Join → Type 0
BeforeIn at None = ⊥
BeforeIn at (Some join) = at ≤ join.behind

abbrev pub BehindIt : ℕ → Option Join → Type 0
BehindIt at None = ⊥
BehindIt at (Some join) = join.behind ≤ at

abbrev pub Begins : List Join → ℕ → Location → Type 0
Begins joins at (AtJoin number) = BehindIt at (slice_get joins number)
Begins joins at (Holds v number) = Unit {0}
Begins joins at (Listed v) = Unit {0}
Begins joins at (Runs v) = Unit {0}
Begins joins at (AtCell cell) = Unit {0}

-- A branch comes behind what it needs and before where what it owes is due; it ends before what follows its join, and is parked at a join that comes before.
pub record Timely (due : ℕ → ℕ) (workers : ℕ) (joins : List Join) (location : Location) (join at : ℕ) (signals waits : List ℕ) (rest : Script) : Type 0 where
  pub in_range : InRange workers location
  pub needs_before : AllByRecursion (λ cell. due cell ≤ at) (needs location waits)
  pub owes_behind : AllByRecursion (λ cell. at + size rest ≤ due cell) signals
  pub ends_before : BeforeIn (at + size rest) (slice_get joins join)
  pub begins : Begins joins at location
  pub timed : Timed due at rest

abbrev pub OnTime : (ℕ → ℕ) → ℕ → List Join → Spot → Type 0
OnTime due workers joins x = Timely due workers joins x.location x.branch.join x.branch.at x.branch.signals x.branch.waits x.branch.rest

-- all that a branch needs is served
abbrev pub IsServed : List ℕ → List (List ℕ) → List Spot → Spot → Type 0
IsServed full poisoned pool x = AllByRecursion (Served full poisoned pool) (needs x.location x.branch.waits)

-- A branch is parked where it cannot go on, and the parent of a join is held where it can.
abbrev pub StuckAt : List ℕ → List (List ℕ) → List Join → List Stored → Location → Type 0
StuckAt full poisoned joins stored (Listed v) = Unit {0}
StuckAt full poisoned joins stored (Runs v) = Unit {0}
StuckAt full poisoned joins stored (AtCell cell) = (has cell full ≡ false) × (has_in cell poisoned ≡ false)
StuckAt full poisoned joins stored (AtJoin number) = (join : Join) × (slice_get joins number ≡ Some join) × (gathered stored number 1 join.children ≡ None)
StuckAt full poisoned joins stored (Holds v number) = (join : Join) × (os : List Outcome) × (slice_get joins number ≡ Some join) × (gathered stored number 1 join.children ≡ Some os)

abbrev pub Stuck : List ℕ → List (List ℕ) → List Join → List Stored → Spot → Type 0
Stuck full poisoned joins stored x = StuckAt full poisoned joins stored x.location

-- a child whose outcome is not stored has a branch
abbrev pub Placed : List Join → List Stored → List Spot → Type 0
Placed joins stored pool = (number child : ℕ) (join : Join) → slice_get joins number ≡ Some join → 1 ≤ child → child ≤ count join.children → stored_at number child stored ≡ None
    → AnyOf (InPlace number child) pool

pub record Live (due : ℕ → ℕ) (root : Script) (w : World) : Type 0 where
  pub on_time : AllByRecursion (OnTime due w.workers w.joins) w.pool
  pub served : AllByRecursion (IsServed w.full w.poisoned w.pool) w.pool
  pub stuck : AllByRecursion (Stuck w.full w.poisoned w.joins w.stored) w.pool
  pub placed : Placed w.joins w.stored w.pool
  pub numbered : AllByRecursion (λ one. one.join < length w.joins) w.stored
  pub outermost_is : slice_get w.joins 0 ≡ Some (outermost root)
