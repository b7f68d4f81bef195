-- How the core's lists and tables show a world.
use Rattle.std.specs.Prelude.{◌≡◌, ℕ, suc, ◌+◌, ◌*◌, ◌≤◌, ◌<◌, ◌^◌, Bool, false, List, [], ◌∷◌, length, filter, Option, Some, None, nat_eq, slice_get, IsSome}
use Rattle.std.specs.List.{AllByRecursion}
use Rattle.merc_script.specs.declared.outcome.Outcome.{Outcome}
use Rattle.merc_script.specs.declared.items.Item.{Item}
use Rattle.merc_script.specs.declared.items.Item.TheVariants.{Wait as WaitItem}
use Rattle.merc_script.specs.Script.{Script, Ends, TickThen, WaitThen, SignalThen, ForkThen, Children, NoChild, Child, Cell as ScriptCell, Move, count, size}
use Rattle.merc_script.specs.Items.{items_of, script_of}
use Rattle.merc_script.specs.Joining.{HasFewSteps}
use Rattle.merc_core.specs.declared.branch.Branch.{Branch as CoreBranch}
use Rattle.merc_core.specs.declared.cell.Cell.{Cell as CoreCell}
use Rattle.merc_core.specs.declared.join.Join.{Join as CoreJoin}
use Rattle.merc_core.specs.declared.worker.Worker.{Worker}
use Rattle.merc_core.specs.World.{Branch, Location, Listed, Runs, Holds, AtCell, AtJoin, Spot, Join, Stored, World, stored_at}
use Rattle.merc_core.specs.Events.{acts, listed, parked, awaits}
use Rattle.merc_core.specs.Rights.{has, has_in}
use Rattle.merc_core.specs.WellFormed.{most_children, most_steps}
use Rattle.merc_core.specs.Standing.{StandsAt, IsLeft}
use Rattle.merc_core.specs.Queues.{meeting_at, waiting_of}
use Rattle.merc_core.specs.Given.{given, HasLeft, IsOpenAt}
use Rattle.merc_core.specs.Laws.{AllStand}

-- The lists in which branches are: a worker's hand and its list, those that wait for a cell, and a join's parent.
pub data Key : Type 0 where
  Hand : (worker : ℕ) → Key
  Row : (worker : ℕ) → Key
  Waiting : (cell : ℕ) → Key
  Parent : (join : ℕ) → Key

abbrev pub same_key : Key → Key → Bool
same_key (Hand a) (Hand b) = nat_eq a b
same_key (Row a) (Row b) = nat_eq a b
same_key (Waiting a) (Waiting b) = nat_eq a b
same_key (Parent a) (Parent b) = nat_eq a b
same_key (Hand a) _ = false
same_key (Row a) _ = false
same_key (Waiting a) _ = false
same_key (Parent a) _ = false

-- a branch is in a list
abbrev pub stands_in : Key → Spot → Bool
stands_in (Hand worker) one = acts worker one
stands_in (Row worker) one = listed worker one
stands_in (Waiting cell) one = parked cell one
stands_in (Parent join) one = awaits join one

-- the core's parts: its workers, its cells by number, its joins with the room for them, and what is kept for Forks
pub record Parts : Type 0 where
  pub workers : List Worker
  pub cells : ℕ → Option CoreCell
  pub joins : List CoreJoin
  pub room : ℕ
  pub branches : List CoreBranch
  pub outcomes : List (Option Outcome)
  pub rights : List ℕ

abbrev pub hand_of : Option Worker → List CoreBranch
hand_of None = []
hand_of (Some worker) = worker.hand

abbrev pub row_of : Option Worker → List CoreBranch
row_of None = []
row_of (Some worker) = worker.list

abbrev pub held_of : Option Worker → Option ℕ
held_of None = None
held_of (Some worker) = worker.held

abbrev pub parents_of : Option CoreJoin → List CoreBranch
parents_of None = []
parents_of (Some join) = join.parent

-- the branches in a list
abbrev pub queue : Parts → Key → List CoreBranch
queue parts (Hand worker) = hand_of (slice_get parts.workers worker)
queue parts (Row worker) = row_of (slice_get parts.workers worker)
queue parts (Waiting cell) = waiting_of (parts.cells cell)
queue parts (Parent join) = parents_of (slice_get parts.joins join)

-- the join whose parent a worker holds
abbrev pub held : Parts → ℕ → Option ℕ
held parts worker = held_of (slice_get parts.workers worker)

-- where a branch is that a worker has in its hand
abbrev pub in_hand_at : ℕ → Option ℕ → Location
in_hand_at worker None = Runs worker
in_hand_at worker (Some join) = Holds worker join

-- A branch of the core is one of the world. It keeps all rights with which its script began.
pub record Shows (items : List Item) (one : CoreBranch) (b : Branch) : Type 0 where
  pub join : one.join ≡ b.join
  pub child : one.child ≡ b.child
  pub at : one.at ≡ b.at
  pub steps : one.steps ≡ b.steps
  pub signals : one.signals ≡ given (script_of items) b.name
  pub left : IsLeft items one b.rest
  pub within : one.at < length items
  pub few : one.steps ≤ 2 * most_steps + one.at

abbrev pub AllShow : List Item → List CoreBranch → List Spot → Type 0
AllShow items [] [] = Unit {0}
AllShow items (one ∷ more) (x ∷ xs) = Shows items one x.branch × AllShow items more xs
AllShow items [] (x ∷ xs) = ⊥
AllShow items (one ∷ more) [] = ⊥

-- a parent made few steps before its Fork
abbrev pub IsEarly : Location → ℕ → Type 0
IsEarly (Listed worker) steps = Unit {0}
IsEarly (Runs worker) steps = Unit {0}
IsEarly (Holds worker join) steps = steps ≤ most_steps
IsEarly (AtCell cell) steps = Unit {0}
IsEarly (AtJoin join) steps = steps ≤ most_steps

-- lists that have one branch at most
abbrev pub IsSingle : Key → Type 0
IsSingle (Hand worker) = Unit {0}
IsSingle (Row worker) = ⊥
IsSingle (Waiting cell) = ⊥
IsSingle (Parent join) = Unit {0}

-- lists, and the joins that workers hold, are those of branches in these places
pub record ShowsPool (items : List Item) (queues : Key → List CoreBranch) (holds : ℕ → Option ℕ) (pool : List Spot) : Type 0 where
  pub each : (key : Key) → AllShow items (queues key) (filter (stands_in key) pool)
  pub hands : (worker : ℕ) → AllByRecursion (λ one. one.location ≡ in_hand_at worker (holds worker)) (filter (stands_in (Hand worker)) pool)
  pub single : (key : Key) → IsSingle key → length (queues key) ≤ 1
  pub early : AllByRecursion (λ one. IsEarly one.location one.branch.steps) pool

-- a branch that comes to it finds the same
abbrev pub ShowsCell : ℕ → List ℕ → List (List ℕ) → Option CoreCell → Type 0
ShowsCell cell full poisoned None = Unit {0}
ShowsCell cell full poisoned (Some one) = meeting_at one.is_full one.is_poisoned ≡ meeting_at (has cell full) (has_in cell poisoned)

-- what is stored for children from this one on
abbrev pub stored_for : List Stored → ℕ → ℕ → Children → List (Option Outcome)
stored_for stored join child NoChild = []
stored_for stored join child (Child first more) = stored_at join child stored ∷ stored_for stored join (suc child) more

abbrev pub FewIf : Option Outcome → Type 0
FewIf None = Unit {0}
FewIf (Some o) = HasFewSteps o

pub record IsJoin (stored : List Stored) (number : ℕ) (one : CoreJoin) (join : Join) : Type 0 where
  pub limit : one.limit ≡ join.limit
  pub small : join.limit ≤ most_steps
  pub outcomes : one.outcomes ≡ stored_for stored number 1 join.children
  pub few : AllByRecursion FewIf one.outcomes
  pub children : count join.children ≤ most_children

abbrev pub ShowsJoin : List Stored → ℕ → Option CoreJoin → Option Join → Type 0
ShowsJoin stored number None None = Unit {0}
ShowsJoin stored number (Some one) (Some join) = IsJoin stored number one join
ShowsJoin stored number None (Some join) = ⊥
ShowsJoin stored number (Some one) None = ⊥

-- what the Forks of a script and of its descendants make, each so much
abbrev mutual
  pub made : (ℕ → List ScriptCell → List Move → ℕ) → Script → ℕ
  made each (Ends o) = 0
  made each (TickThen rest) = made each rest
  made each (WaitThen cell rest) = made each rest
  made each (SignalThen cell rest) = made each rest
  made each (ForkThen limit cells moves children rest) = each (count children) cells moves + (made_in each children + made each rest)

  pub made_in : (ℕ → List ScriptCell → List Move → ℕ) → Children → ℕ
  made_in each NoChild = 0
  made_in each (Child first others) = made each first + made_in each others

-- a Fork makes branches, and stores an outcome for each; rights; and one join
abbrev pub branches_made : ℕ → List ScriptCell → List Move → ℕ
branches_made children cells moves = children

abbrev pub rights_made : ℕ → List ScriptCell → List Move → ℕ
rights_made children cells moves = length cells + length moves

abbrev pub joins_made : ℕ → List ScriptCell → List Move → ℕ
joins_made children cells moves = 1

-- what all branches still make
abbrev pub still_made : (ℕ → List ScriptCell → List Move → ℕ) → List Spot → ℕ
still_made each [] = 0
still_made each (one ∷ rest) = made each one.branch.rest + still_made each rest

-- there is room for all that is still made
pub record HasRoom (parts : Parts) (pool : List Spot) (made_joins : ℕ) : Type 0 where
  pub branches : still_made branches_made pool ≤ length parts.branches
  pub outcomes : still_made branches_made pool ≤ length parts.outcomes
  pub rights : still_made rights_made pool ≤ length parts.rights
  pub joins : still_made joins_made pool + made_joins ≤ parts.room
  pub crowd : length pool + length parts.branches < 2 ^ 63
  pub many : length parts.rights < 2 ^ 63

pub record Mirrors (items : List Item) (parts : Parts) (w : World) : Type 0 where
  pub workers : length parts.workers ≡ w.workers
  pub pool : ShowsPool items (queue parts) (held parts) w.pool
  pub cells : (cell : ℕ) → ShowsCell cell w.full w.poisoned (parts.cells cell)
  pub waits : (place cell : ℕ) → slice_get items place ≡ Some (WaitItem cell) → IsSome (parts.cells cell)
  pub joins : (number : ℕ) → ShowsJoin w.stored number (slice_get parts.joins number) (slice_get w.joins number)
  pub count : length parts.joins ≡ length w.joins
  pub has_room : HasRoom parts w.pool (length w.joins)

-- the root's items, with the place past each script that stands among them
pub record IsCourse (items : List Item) (past : List ℕ) (root : Script) : Type 0 where
  pub whole : items ≡ items_of root
  pub past_each : (place : ℕ) (script : Script) → StandsAt items place script → slice_get past place ≡ Some (place + size script)
  pub small : length items < 2 ^ 63

-- what a well-formed script says of a branch that runs
abbrev pub IsFit : ℕ → Script → Type 0
IsFit steps (Ends o) = HasFewSteps o
IsFit steps (TickThen rest) = Unit {0}
IsFit steps (WaitThen cell rest) = Unit {0}
IsFit steps (SignalThen cell rest) = Unit {0}
IsFit steps (ForkThen limit cells moves children rest) = (steps ≤ most_steps) × (limit ≤ most_steps) × (1 ≤ count children) × (count children ≤ most_children)

abbrev pub IsFitAt : Location → ℕ → Script → Type 0
IsFitAt (Runs worker) steps rest = IsFit steps rest
IsFitAt (Listed worker) steps rest = Unit {0}
IsFitAt (Holds worker join) steps rest = Unit {0}
IsFitAt (AtCell cell) steps rest = Unit {0}
IsFitAt (AtJoin join) steps rest = Unit {0}

-- Each branch that runs is fit, and what is stored is for joins that are there. Branches stand where their names say, have rights left of those that they were
-- given, and are parked at cells that are neither full nor poisoned.
pub record AreFit (items : List Item) (w : World) : Type 0 where
  pub each : AllByRecursion (λ one. IsFitAt one.location one.branch.steps one.branch.rest) w.pool
  pub stand : AllStand (script_of items) w
  pub rights : AllByRecursion (HasLeft (script_of items) w.full w.poisoned w.joins) w.pool
  pub opened : AllByRecursion (λ one. IsOpenAt w.full w.poisoned one.location) w.pool
  pub stored : AllByRecursion (λ one. one.join < length w.joins) w.stored
