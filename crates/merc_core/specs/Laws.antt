-- What holds of every list of events.
use Rattle.std.specs.Prelude.{◌≡◌, ◌≢◌, ℕ, ◌*◌, ◌≤◌, ◌<◌, ◌⊎◌, Bool, false, List, [], ◌∷◌, ◌++◌, length, Option, Some, None, Ok, nat_eq, slice_get, filter}
use Rattle.std.specs.List.{AllByRecursion}
use Rattle.merc_script.specs.declared.outcome.Outcome.{Outcome}
use Rattle.merc_script.specs.declared.outcome.Outcome.TheVariants.{Ok as Fine, Raise, Limit, Starved, NoMemory}
use Rattle.merc_script.specs.declared.cells.Move.{Move}
use Rattle.merc_script.specs.Script.{Script, Ends, ForkThen, Children, NoChild, Child, Cell, end_of, size}
use Rattle.merc_script.specs.Places.{Name, left_of, script_named}
use Rattle.merc_core.specs.declared.event.Event.{Event}
use Rattle.merc_core.specs.declared.event.Event.TheVariants.{Tick, Fork, Pop, Steal, Signal, Wait, End, Resume, Lost}
use Rattle.merc_core.specs.World.{Branch, Location, Listed, Runs, Holds, AtCell, AtJoin, Spot, Parent, Join, Stored, World, start, outcome}
use Rattle.merc_core.specs.Events.{worker_of, acts, parked, in_hand, happens, run}
use Rattle.merc_core.specs.WellFormed.{WellFormed, value_in, cells_of}

-- this list of events is accepted, and leads to a world
abbrev pub LeadsTo : Script → ℕ → List Event → World → Type 0
LeadsTo root workers events w = run events (Ok (start root workers)) ≡ Ok w

-- Where branches and joins stand in the root script

-- the name of a child's script, whose join has this parent; the outermost join's child has the root's script
abbrev pub child_name : ℕ → Option Parent → Name
child_name child None = []
child_name child (Some parent) = parent.name ++ ((parent.passed, child) ∷ [])

-- What is left of the script at a branch's name, without the items that it has passed, is what it carries, or it carries an end that it was given early.
abbrev pub Carries : Script → Branch → Type 0
Carries root b = (left_of (record { root = root; name = b.name; passed = b.passed }) ≡ Some b.rest) ⊎ (end : Outcome) × (b.rest ≡ Ends end)

-- its name is that of a child of its join
abbrev pub IsNamedIn : Branch → Option Join → Type 0
IsNamedIn b None = ⊥
IsNamedIn b (Some join) = b.name ≡ child_name b.child join.parent

pub record Stands (root : Script) (joins : List Join) (b : Branch) : Type 0 where
  pub carries : Carries root b
  pub named : IsNamedIn b (slice_get joins b.join)

-- A join has the limit and the children of the Fork at its parent's place.
pub record IsOfFork (root : Script) (parent : Parent) (limit : ℕ) (children : Children) : Type 0 where
  pub cells : List Cell
  pub moves : List Move
  pub rest : Script
  pub is : left_of (record { root = root; name = parent.name; passed = parent.passed }) ≡ Some (ForkThen limit cells moves children rest)

abbrev pub IsMadeBy : Script → ℕ → Children → Option Parent → Type 0
IsMadeBy root limit children None = children ≡ Child root NoChild
IsMadeBy root limit children (Some parent) = IsOfFork root parent limit children

pub record AllStand (root : Script) (w : World) : Type 0 where
  pub each_branch : AllByRecursion (λ one. Stands root w.joins one.branch) w.pool
  pub each_join : AllByRecursion (λ join. IsMadeBy root join.limit join.children join.parent) w.joins

abbrev pub EachStands : Type 0
EachStands = (root : Script) (workers : ℕ) (events : List Event) (w : World) → LeadsTo root workers events w → AllStand root w

-- Outcomes and values

-- the script of a child of a join
abbrev pub child_script : Script → ℕ → Option Join → Option Script
child_script root child None = None
child_script root child (Some join) = script_named (child_name child join.parent) (Some root)

abbrev pub IsEndOf : Outcome → Option Script → Type 0
IsEndOf o None = ⊥
IsEndOf o (Some script) = o ≡ end_of script

-- a stored outcome is the end of that child's script
abbrev pub IsItsEnd : Script → List Join → Stored → Type 0
IsItsEnd root joins one = IsEndOf one.outcome (child_script root one.child (slice_get joins one.join))

-- no event ends a branch for want of memory
abbrev pub IsKept : Event → Type 0
IsKept (Tick worker) = Unit {0}
IsKept (Fork worker) = Unit {0}
IsKept (Pop worker) = Unit {0}
IsKept (Steal worker victim) = Unit {0}
IsKept (Signal worker) = Unit {0}
IsKept (Wait worker) = Unit {0}
IsKept (End worker) = Unit {0}
IsKept (Resume worker) = Unit {0}
IsKept (Lost worker) = ⊥

-- Each stored outcome is the end of that child's script, each full cell has a value in the root's script, and the outcome of the whole is the root's end.
pub record IsTrueTo (root : Script) (w : World) : Type 0 where
  pub each_end : AllByRecursion (IsItsEnd root w.joins) w.stored
  pub each_value : AllByRecursion (λ cell. value_in (cells_of root) cell ≢ None) w.full
  pub whole : (o : Outcome) → outcome w ≡ Some o → o ≡ end_of root

-- Whatever the number of workers and however their events fall, all outcomes are those of the scripts.
abbrev pub EveryInterleaving : Type 0
EveryInterleaving = (root : Script) (workers : ℕ) (events : List Event) (w : World) → WellFormed root → AllByRecursion IsKept events → LeadsTo root workers events w → IsTrueTo root w

-- what a branch may end with where memory was refused to it, or to one that it waits for or whose outcome it joins
abbrev pub IsCutEnd : Outcome → Type 0
IsCutEnd (Fine n) = ⊥
IsCutEnd (Raise e n) = ⊥
IsCutEnd Limit = ⊥
IsCutEnd Starved = Unit {0}
IsCutEnd NoMemory = Unit {0}

-- The same where branches may end for want of memory: a stored outcome may then be NoMemory or Starved instead.
pub record IsNearlyTrueTo (root : Script) (w : World) : Type 0 where
  pub each_end : AllByRecursion (λ one. IsItsEnd root w.joins one ⊎ IsCutEnd one.outcome) w.stored
  pub each_value : AllByRecursion (λ cell. value_in (cells_of root) cell ≢ None) w.full
  pub whole : (o : Outcome) → outcome w ≡ Some o → (o ≡ end_of root) ⊎ IsCutEnd o

abbrev pub EveryLoss : Type 0
EveryLoss = (root : Script) (workers : ℕ) (events : List Event) (w : World) → WellFormed root → LeadsTo root workers events w → IsNearlyTrueTo root w

-- No list of accepted events is as long as twice the script's size.
abbrev pub AlwaysEnds : Type 0
AlwaysEnds = (root : Script) (workers : ℕ) (events : List Event) (w : World) → LeadsTo root workers events w → length events < 2 * size root

-- an event that is accepted
pub record GoesOn (w : World) : Type 0 where
  pub event : Event
  pub next : World
  pub accepted : happens w event ≡ Ok next

-- As long as the outermost join is not done there is one.
abbrev pub NeverStuck : Type 0
NeverStuck = (root : Script) (workers : ℕ) (events : List Event) (w : World) → WellFormed root → 1 ≤ workers → LeadsTo root workers events w → outcome w ≡ None → GoesOn w

-- What a branch carries is what is left at its name, or an end that it was given early, and this is Starved or NoMemory.
abbrev pub CarriesIts : Script → Branch → Type 0
CarriesIts root b = (left_of (record { root = root; name = b.name; passed = b.passed }) ≡ Some b.rest) ⊎ (end : Outcome) × (b.rest ≡ Ends end) × IsCutEnd end

abbrev pub EachCarries : Type 0
EachCarries = (root : Script) (workers : ℕ) (events : List Event) (w : World) → WellFormed root → LeadsTo root workers events w → AllByRecursion (λ one. CarriesIts root one.branch) w.pool

-- What a worker runs

abbrev pub spot_of : Option (Spot × List Spot) → Option Spot
spot_of None = None
spot_of (Some found) = Some found.0

-- the branch that a worker runs or holds
abbrev pub hand_of : ℕ → World → Option Spot
hand_of worker w = spot_of (in_hand worker w.pool)

-- it is the parent of a join, parked there or held
abbrev pub is_parent_at : ℕ → Location → Bool
is_parent_at number (AtJoin other) = nat_eq other number
is_parent_at number (Holds worker other) = nat_eq other number
is_parent_at number (Listed worker) = false
is_parent_at number (Runs worker) = false
is_parent_at number (AtCell cell) = false

abbrev pub is_parent : ℕ → Spot → Bool
is_parent number one = is_parent_at number one.location

-- A worker runs or holds one branch at most, and a join has one parent at most.
pub record AreSingle (w : World) : Type 0 where
  pub one_hand : (worker : ℕ) → length (filter (acts worker) w.pool) ≤ 1
  pub one_parent : (number : ℕ) → length (filter (is_parent number) w.pool) ≤ 1

abbrev pub EachSingle : Type 0
EachSingle = (root : Script) (workers : ℕ) (events : List Event) (w : World) → LeadsTo root workers events w → AreSingle w

-- In a well-formed script one branch at most is parked at a cell.
abbrev pub EachWaiter : Type 0
EachWaiter = (root : Script) (workers : ℕ) (events : List Event) (w : World) → WellFormed root → LeadsTo root workers events w → (cell : ℕ) → length (filter (parked cell) w.pool) ≤ 1

-- Only a worker's own events change what it runs or holds.
abbrev pub OwnEventsAlone : Type 0
OwnEventsAlone = (w : World) (event : Event) (next : World) (worker : ℕ) → happens w event ≡ Ok next → (worker_of event ≡ worker → ⊥) → hand_of worker next ≡ hand_of worker w
