-- What an event does to the core's state.
use Rattle.std.specs.Prelude.{◌≡◌, ℕ, List, [], ◌∷◌, Some, None, Result, Ok, Err, vec_capacity}
use Rattle.std.specs.Ordering.{nat_cmp}
use Rattle.std.specs.BTreeMap.{get}
use Rattle.merc_script.specs.declared.outcome.Outcome.{Outcome}
use Rattle.merc_script.specs.declared.items.Item.{Item}
use Rattle.merc_script.specs.Script.{Script}
use Rattle.merc_core.specs.declared.branch.Branch.{Branch as CoreBranch}
use Rattle.merc_core.specs.declared.course.Next.{Next}
use Rattle.merc_core.specs.declared.event.Event.{Event}
use Rattle.merc_core.specs.declared.event.NotNow.{NotNow}
use Rattle.merc_core.specs.declared.state.State.{State}
use Rattle.merc_core.specs.declared.worker.Worker.{Worker}
use Rattle.merc_core.specs.World.{World, Spot}
use Rattle.merc_core.specs.Events.{happens, in_hand, finished}
use Rattle.merc_core.specs.declared.event.Event.TheVariants.{Fork as ForkEvent}
use Rattle.merc_core.specs.declared.course.Next.TheVariants.{Tick, Wait, Signal, Fork, End}
use Rattle.merc_script.specs.declared.items.Fork.{Fork as ForkData}
use Rattle.merc_core.specs.Standing.{IsLeft, IsNext}
use Rattle.merc_core.specs.Mirror.{Parts, Mirrors, IsCourse, AreFit}

abbrev pub parts_of : State → Parts
parts_of state = record {
  workers = state.workers.items;
  cells = λ cell. get nat_cmp state.cells cell;
  joins = state.joins.items;
  room = vec_capacity state.joins;
  branches = state.spare.branches;
  outcomes = state.spare.outcomes;
  rights = state.spare.rights;
}

-- the state shows some world of a root script with these items
pub record IsKept (items : List Item) (past : List ℕ) (parts : Parts) : Type 0 where
  pub root : Script
  pub world : World
  pub course : IsCourse items past root
  pub mirrors : Mirrors items parts world
  pub fit : AreFit items world

-- Where the event happens the new state shows what it leaves; else it is the old one.
abbrev pub Answers : List Item → Event → World → State → Result (Unit {0}) NotNow → State → Type 0
Answers items event w old (Ok done) new = (after : World) × (happens w event ≡ Ok after) × Mirrors items (parts_of new) after
Answers items event w old (Err refused) new = (happens w event ≡ Err refused) × (new ≡ old)

abbrev pub Keeps : List Item → List ℕ → Event → State → Result (Unit {0}) NotNow → State → Type 0
Keeps items past event old result new =
    (root : Script) (w : World) → IsCourse items past root → Mirrors items (parts_of old) w → AreFit items w → Answers items event w old result new

-- a worker that runs a branch which comes to this next
pub record RunsNext (items : List Item) (worker : Worker) (next : Next) : Type 0 where
  pub free : worker.held ≡ None
  pub branch : CoreBranch
  pub more : List CoreBranch
  pub hand : worker.hand ≡ branch ∷ more
  pub comes : (left : Script) → IsLeft items branch left → IsNext items branch.at next left

-- a worker that runs none: its hand is empty, or it holds a parent
pub data IsIdle (worker : Worker) : Type 0 where
  empty : worker.hand ≡ [] → IsIdle worker
  holding : (join : ℕ) → worker.held ≡ Some join → IsIdle worker

-- the branch that a worker runs is finished with an outcome, and the new parts show that
abbrev pub Finishes : List Item → ℕ → Outcome → Parts → Parts → Type 0
Finishes items worker o old new =
    (w : World) (x : Spot) (others : List Spot) → Mirrors items old w → AreFit items w → in_hand worker w.pool ≡ Some (x, others) → Mirrors items new (finished w worker x.branch others o)

abbrev pub IsForkNext : Next → ForkData → Type 0
IsForkNext (Fork here) fork = here.now ≡ fork
IsForkNext Tick fork = ⊥
IsForkNext (Wait cell) fork = ⊥
IsForkNext (Signal cell) fork = ⊥
IsForkNext (End end) fork = ⊥

-- the branch that a worker runs forks, and the new parts show that
abbrev pub ForksTo : List Item → List ℕ → ℕ → ForkData → Parts → Parts → Type 0
ForksTo items past worker fork old new =
    (root : Script) (w : World) → IsCourse items past root → Mirrors items old w → AreFit items w → (after : World) × (happens w (ForkEvent worker) ≡ Ok after) × Mirrors items new after
