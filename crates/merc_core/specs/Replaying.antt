-- The core's parts show what the events so far lead to.
use Rattle.std.specs.Prelude.{◌≡◌, ◌==◌, ℕ, ◌+◌, ◌*◌, ◌≤◌, ◌<◌, ◌⊎◌, List, [], ◌∷◌, length, Option, Some, None, if◌then◌else◌}
use Rattle.merc_script.specs.declared.items.Item.{Item}
use Rattle.merc_script.specs.Script.{size}
use Rattle.merc_script.specs.Items.{script_of}
use Rattle.merc_core.specs.declared.event.Event.{Event}
use Rattle.merc_core.specs.declared.event.Event.TheVariants.{Tick as TickEvent, Fork as ForkEvent, Pop, Signal as SignalEvent, Wait as WaitEvent, End as EndEvent, Resume}
use Rattle.merc_core.specs.declared.course.Next.{Next}
use Rattle.merc_core.specs.declared.course.Next.TheVariants.{Tick, Wait, Signal, Fork, End}
use Rattle.merc_core.specs.declared.worker.Worker.{Worker}
use Rattle.merc_core.specs.World.{World}
use Rattle.merc_core.specs.WellFormed.{WellFormed, most_workers}
use Rattle.merc_core.specs.Laws.{LeadsTo}
use Rattle.merc_core.specs.Mirror.{Parts, Mirrors, IsCourse}
use Rattle.merc_core.specs.Stepping.{RunsNext}

-- .. and there is room for all events that can be accepted
pub record Replays (items : List Item) (past : List ℕ) (parts : Parts) (events : List Event) (space : ℕ) : Type 0 where
  pub world : World
  pub well : WellFormed (script_of items)
  pub course : IsCourse items past (script_of items)
  pub some : 1 ≤ length parts.workers
  pub few : length parts.workers ≤ most_workers
  pub leads : LeadsTo (script_of items) (length parts.workers) events world
  pub mirrors : Mirrors items parts world
  pub roomy : 2 * size (script_of items) ≤ space

-- the event of a worker whose branch comes to this next
abbrev pub event_for : ℕ → Next → Event
event_for worker Tick = TickEvent worker
event_for worker (Wait cell) = WaitEvent worker
event_for worker (Signal cell) = SignalEvent worker
event_for worker (Fork fork) = ForkEvent worker
event_for worker (End end) = EndEvent worker

-- the next event of a worker with a branch in its hand
pub data IsTurn (items : List Item) (number : ℕ) (worker : Worker) : Event → Type 0 where
  runs : (next : Next) → RunsNext items worker next → IsTurn items number worker (event_for number next)
  holds : (join : ℕ) → worker.held ≡ Some join → 0 < length worker.hand → IsTurn items number worker (Resume number)

-- that of the first worker with a branch in its hand, where the first of all has this number; or there is none
abbrev pub IsFirstTurn : List Item → ℕ → List Worker → Option Event → Type 0
IsFirstTurn items number [] found = found ≡ None
IsFirstTurn items number (first ∷ rest) found =
    (first.hand ≡ []) × IsFirstTurn items (number + 1) rest found ⊎ (event : Event) × (found ≡ Some event) × IsTurn items number first event

-- a pop of the first worker with a branch in its list, if there is one
abbrev pub first_pop : ℕ → List Worker → Option Event
first_pop number [] = None
first_pop number (first ∷ rest) = if length first.list == 0 then first_pop (number + 1) rest else Some (Pop number)
