-- An event that is accepted, as long as the outermost join is not done.
use Rattle.std.specs.Prelude.{ℕ, List, [], ◌∷◌, Option, Some, None}
use Rattle.merc_script.specs.declared.outcome.Outcome.{Outcome}
use Rattle.merc_script.specs.Script.{Script, Ends, TickThen, WaitThen, SignalThen, ForkThen}
use Rattle.merc_core.specs.declared.event.Event.{Event}
use Rattle.merc_core.specs.declared.event.Event.TheVariants.{Tick, Fork, Pop, Signal, Wait, End, Resume}
use Rattle.merc_core.specs.World.{Location, Listed, Runs, Holds, AtCell, AtJoin, Spot, World, outcome}

-- the next event of a worker that runs a branch with this left of its script
abbrev pub event_at : ℕ → Script → Event
event_at worker (Ends o) = End worker
event_at worker (TickThen rest) = Tick worker
event_at worker (WaitThen cell rest) = Wait worker
event_at worker (SignalThen cell rest) = Signal worker
event_at worker (ForkThen limit cells moves children rest) = Fork worker

abbrev pub acting_at : Location → Script → Option Event → Option Event
acting_at (Runs worker) rest other = Some (event_at worker rest)
acting_at (Holds worker join) rest other = Some (Resume worker)
acting_at (Listed worker) rest other = other
acting_at (AtCell cell) rest other = other
acting_at (AtJoin join) rest other = other

-- the next event of the first branch that a worker runs or holds
abbrev pub acting : List Spot → Option Event
acting [] = None
acting (first ∷ rest) = acting_at first.location first.branch.rest (acting rest)

abbrev pub listed_for : Location → Option Event → Option Event
listed_for (Listed worker) other = Some (Pop worker)
listed_for (Runs worker) other = other
listed_for (Holds worker join) other = other
listed_for (AtCell cell) other = other
listed_for (AtJoin join) other = other

-- the first branch in a list is taken up by the list's worker
abbrev pub waiting : List Spot → Option Event
waiting [] = None
waiting (first ∷ rest) = listed_for first.location (waiting rest)

abbrev pub or_else : Option Event → Option Event → Option Event
or_else None other = other
or_else (Some event) other = Some event

abbrev pub unless_done : Option Outcome → Option Event → Option Event
unless_done None event = event
unless_done (Some o) event = None

-- the next event of a worker that runs or holds a branch, else a Pop
abbrev pub ready : World → Option Event
ready w = unless_done (outcome w) (or_else (acting w.pool) (waiting w.pool))
