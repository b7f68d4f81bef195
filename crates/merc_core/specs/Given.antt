-- The rights to signal with which a script begins, and what has become of those that its branch has no more.
use Rattle.std.specs.Prelude.{◌≡◌, ℕ, ◌≤◌, ◌⊎◌, false, true, List, [], ◌∷◌, Option, Some, None, slice_get}
use Rattle.std.specs.List.{AllByRecursion}
use Rattle.merc_script.specs.Script.{Script, Ends, TickThen, WaitThen, SignalThen, ForkThen, count}
use Rattle.merc_script.specs.Places.{Name, left_in, child_of}
use Rattle.merc_core.specs.World.{Location, Listed, Runs, Holds, AtCell, AtJoin, Spot, Join, World}
use Rattle.merc_core.specs.Rights.{has, has_in, signals_at}
use Rattle.merc_core.specs.Laws.{child_name}

-- the rights of this child of the Fork with which a script begins
abbrev pub given_by : ℕ → Option Script → List ℕ
given_by child None = []
given_by child (Some (Ends end)) = []
given_by child (Some (TickThen rest)) = []
given_by child (Some (WaitThen cell rest)) = []
given_by child (Some (SignalThen cell rest)) = []
given_by child (Some (ForkThen limit cells moves children rest)) = signals_at child cells moves

-- those of the script to which a name leads, from a script that has these
abbrev pub given_from : List ℕ → Name → Option Script → List ℕ
given_from had [] script = had
given_from had (step ∷ steps) script = given_from (given_by step.1 (left_in step.0 script)) steps (child_of step.1 (left_in step.0 script))

abbrev pub given : Script → Name → List ℕ
given root name = given_from [] name (Some root)

-- a cell is full or poisoned
abbrev pub IsSettled : List ℕ → List (List ℕ) → ℕ → Type 0
IsSettled full poisoned cell = (has cell full ≡ true) ⊎ (has_in cell poisoned ≡ true)

-- a child of a join was given the right to signal a cell
pub record IsPassedOn (root : Script) (joins : List Join) (number cell : ℕ) : Type 0 where
  pub join : Join
  pub is : slice_get joins number ≡ Some join
  pub child : ℕ
  pub from_one : 1 ≤ child
  pub to_last : child ≤ count join.children
  pub holds : has cell (given root (child_name child join.parent)) ≡ true

-- A branch has a right no more where the cell is settled, or where the branch waits for a child that was given the right.
abbrev pub IsGone : Script → List ℕ → List (List ℕ) → List Join → Location → ℕ → Type 0
IsGone root full poisoned joins (Listed worker) cell = IsSettled full poisoned cell
IsGone root full poisoned joins (Runs worker) cell = IsSettled full poisoned cell
IsGone root full poisoned joins (Holds worker number) cell = IsSettled full poisoned cell
IsGone root full poisoned joins (AtCell other) cell = IsSettled full poisoned cell
IsGone root full poisoned joins (AtJoin number) cell = IsSettled full poisoned cell ⊎ IsPassedOn root joins number cell

-- of what was given this is left, in the same order, and the rest is gone
pub data AreLeft (Gone : ℕ → Type 0) : List ℕ → List ℕ → Type 0 where
  nothing : AreLeft Gone [] []
  stays : (cell : ℕ) (had has : List ℕ) → AreLeft Gone had has → AreLeft Gone (cell ∷ had) (cell ∷ has)
  goes : (cell : ℕ) (had has : List ℕ) → Gone cell → AreLeft Gone had has → AreLeft Gone (cell ∷ had) has

-- of the rights with which its script begins a branch has some left
abbrev pub HasLeft : Script → List ℕ → List (List ℕ) → List Join → Spot → Type 0
HasLeft root full poisoned joins one = AreLeft (IsGone root full poisoned joins one.location) (given root one.branch.name) one.branch.signals

-- all cells are settled for which this child of a join was given the right to signal
abbrev pub AllSettled : Script → List ℕ → List (List ℕ) → ℕ → Option Join → Type 0
AllSettled root full poisoned child None = ⊥
AllSettled root full poisoned child (Some join) = AllByRecursion (IsSettled full poisoned) (given root (child_name child join.parent))

-- No branch forgets a right: each that it was given it has, or passed on, or the cell is settled. Behind a child that has ended all are settled.
pub record KeepsRights (root : Script) (w : World) : Type 0 where
  pub each : AllByRecursion (HasLeft root w.full w.poisoned w.joins) w.pool
  pub ended : AllByRecursion (λ one. AllSettled root w.full w.poisoned one.child (slice_get w.joins one.join)) w.stored

-- a branch that is parked at a cell finds it neither full nor poisoned
abbrev pub IsOpenAt : List ℕ → List (List ℕ) → Location → Type 0
IsOpenAt full poisoned (AtCell cell) = (has cell full ≡ false) × (has_in cell poisoned ≡ false)
IsOpenAt full poisoned (Listed worker) = Unit {0}
IsOpenAt full poisoned (Runs worker) = Unit {0}
IsOpenAt full poisoned (Holds worker number) = Unit {0}
IsOpenAt full poisoned (AtJoin number) = Unit {0}
