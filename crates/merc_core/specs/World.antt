-- The core's state: branches of scripts over workers, with the cells and the joins at which they meet.
use Rattle.std.specs.Prelude.{ℕ, suc, ◌&&◌, List, [], ◌∷◌, Option, Some, None, if◌then◌else◌, nat_eq}
use Rattle.merc_script.specs.declared.outcome.Outcome.{Outcome}
use Rattle.merc_script.specs.Places.{Name}
use Rattle.merc_script.specs.Script.{Script, Children, NoChild, Child, size}
use Rattle.merc_core.specs.Outcomes.{with_first}

-- A branch is on its way through one script, that of a child of a join. `name` leads to this script from the root's: for each Fork on the way the number of
-- items before it, and the child. `passed` counts the items that the branch has passed, `steps` its steps so far. `at` counts the items and ends that come
-- before it where each Fork's children run before what follows. The branch may signal some cells and wait for some, and `rest` is what is left of its script.
pub record Branch : Type 0 where
  pub join : ℕ
  pub child : ℕ
  pub name : Name
  pub passed : ℕ
  pub at : ℕ
  pub steps : ℕ
  pub signals : List ℕ
  pub waits : List ℕ
  pub rest : Script

-- Where a branch is: in a worker's list, running on a worker, held by one as the parent of a join that is done, or parked at a cell or a join. A parked
-- branch is kept as it will go on: past its Wait, and behind its Fork.
pub data Location : Type 0 where
  Listed : (worker : ℕ) → Location
  Runs : (worker : ℕ) → Location
  Holds : (worker join : ℕ) → Location
  AtCell : (cell : ℕ) → Location
  AtJoin : (join : ℕ) → Location

pub record Spot : Type 0 where
  pub location : Location
  pub branch : Branch

-- whose Fork made a join: the parent's place, and the name of its script with the number of items before the Fork
pub record Parent : Type 0 where
  pub join : ℕ
  pub child : ℕ
  pub name : Name
  pub passed : ℕ

-- A join of children with the Fork's limit. `behind` counts the items and ends that come before what follows the Fork. The outermost join has no parent.
pub record Join : Type 0 where
  pub limit : ℕ
  pub children : Children
  pub behind : ℕ
  pub parent : Option Parent

-- an outcome stored for a child of a join
pub record Stored : Type 0 where
  pub join : ℕ
  pub child : ℕ
  pub outcome : Outcome

-- The number of workers; the branches that have not ended, of which those listed for a worker are its list, the back last; the full cells; the cells that each
-- ended branch left poisoned; the joins by number; the stored outcomes.
pub record World : Type 0 where
  pub workers : ℕ
  pub pool : List Spot
  pub full : List ℕ
  pub poisoned : List (List ℕ)
  pub joins : List Join
  pub stored : List Stored

abbrev pub spot : Location → Branch → Spot
spot location branch = record { location = location; branch = branch }

-- child 1 of the outermost join
abbrev pub first_branch : Script → Branch
first_branch root = record { join = 0; child = 1; name = []; passed = 0; at = 0; steps = 0; signals = []; waits = []; rest = root }

abbrev pub outermost : Script → Join
outermost root = record { limit = 0; children = Child root NoChild; behind = size root; parent = None }

-- the root's script runs on worker 0
abbrev pub start : Script → ℕ → World
start root workers = record {
  workers = workers;
  pool = spot (Runs 0) (first_branch root) ∷ [];
  full = [];
  poisoned = [];
  joins = outermost root ∷ [];
  stored = [];
}

-- the outcome stored for a child of a join
abbrev pub stored_at : ℕ → ℕ → List Stored → Option Outcome
stored_at join child [] = None
stored_at join child (first ∷ rest) = if (nat_eq first.join join && nat_eq first.child child) then Some first.outcome else stored_at join child rest

-- the outcomes of a join's children from this one on, if all are stored
abbrev pub gathered : List Stored → ℕ → ℕ → Children → Option (List Outcome)
gathered stored join child NoChild = Some []
gathered stored join child (Child first more) = with_first (stored_at join child stored) (gathered stored join (suc child) more)

abbrev pub outcomes_of : List Stored → ℕ → Option Join → Option (List Outcome)
outcomes_of stored number None = None
outcomes_of stored number (Some join) = gathered stored number 1 join.children

-- the root's outcome, once the outermost join is done
abbrev pub outcome : World → Option Outcome
outcome w = stored_at 0 1 w.stored
