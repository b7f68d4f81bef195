-- Histories of events without Ticks: the Ticks of a branch stand directly before its next other step.
use Rattle.std.specs.Prelude.{◌≡◌, ℕ, Bool, true, false, not, List, [], ◌∷◌, Ok, Err, filter}
use Rattle.std.specs.List.{AllByRecursion}
use Rattle.merc_script.specs.Script.{Script, Ends, TickThen, WaitThen, SignalThen, ForkThen}
use Rattle.merc_core.specs.declared.event.Event.{Event}
use Rattle.merc_core.specs.declared.event.Event.TheVariants.{Tick, Fork, Pop, Steal, Signal, Wait, End, Resume, Lost}
use Rattle.merc_core.specs.World.{Branch, World, start}
use Rattle.merc_core.specs.Events.{Answer, past_tick, fork_on, signal_on, wait_on, end_on, running, happens}
use Rattle.merc_core.specs.Laws.{LeadsTo, IsKept}

-- past the Ticks with which what is left of its script begins
abbrev pub past_ticks : Script → Branch → Branch
past_ticks (TickThen rest) b = past_ticks rest (past_tick b rest)
past_ticks (Ends o) b = b
past_ticks (WaitThen cell rest) b = b
past_ticks (SignalThen cell rest) b = b
past_ticks (ForkThen limit cells moves children rest) b = b

abbrev pub settled : Branch → Branch
settled b = past_ticks b.rest b

-- what an event does where the branch that its worker runs is past its Ticks
abbrev pub happens_settled : World → Event → Answer
happens_settled w (Tick worker) = happens w (Tick worker)
happens_settled w (Fork worker) = running w worker (λ b others. fork_on w worker (settled b).rest (settled b) others)
happens_settled w (Pop worker) = happens w (Pop worker)
happens_settled w (Steal worker victim) = happens w (Steal worker victim)
happens_settled w (Signal worker) = running w worker (λ b others. signal_on w worker (settled b).rest (settled b) others)
happens_settled w (Wait worker) = running w worker (λ b others. wait_on w worker (settled b).rest (settled b) others)
happens_settled w (End worker) = running w worker (λ b others. end_on w worker (settled b).rest (settled b) others)
happens_settled w (Resume worker) = happens w (Resume worker)
happens_settled w (Lost worker) = happens w (Lost worker)

abbrev pub replay : List Event → Answer → Answer
replay [] answer = answer
replay (first ∷ rest) (Err refused) = Err refused
replay (first ∷ rest) (Ok w) = replay rest (happens_settled w first)

abbrev pub is_tick : Event → Bool
is_tick (Tick worker) = true
is_tick (Fork worker) = false
is_tick (Pop worker) = false
is_tick (Steal worker victim) = false
is_tick (Signal worker) = false
is_tick (Wait worker) = false
is_tick (End worker) = false
is_tick (Resume worker) = false
is_tick (Lost worker) = false

abbrev pub without_ticks : List Event → List Event
without_ticks events = filter (λ event. not (is_tick event)) events

-- Events that lead to a world and are those of a history but for Ticks. None ends a branch for want of memory if none of the history does.
pub record IsRunOf (root : Script) (workers : ℕ) (history : List Event) (w : World) : Type 0 where
  pub events : List Event
  pub leads : LeadsTo root workers events w
  pub same : without_ticks events ≡ without_ticks history
  pub kept : AllByRecursion IsKept history → AllByRecursion IsKept events

-- What a history leads to, the core comes to with the Ticks put in.
abbrev pub HistoriesAreRuns : Type 0
HistoriesAreRuns = (root : Script) (workers : ℕ) (history : List Event) (w : World) → replay history (Ok (start root workers)) ≡ Ok w → IsRunOf root workers history w
