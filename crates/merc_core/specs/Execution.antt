-- How far the execution of a root script has come.
use Rattle.std.specs.Prelude.{◌≡◌, ℕ, List, ◌∷◌, ◌++◌, [], Option, None, Result, Ok, Err, refl}
use Rattle.std.specs.Coded.{Coded, code_by, coded×, coded_ℕ, coded_list}
use Rattle.merc_script.specs.declared.outcome.Outcome.{Outcome}
use Rattle.merc_script.specs.Script.{Script}
use Rattle.merc_script.specs.ScriptCode.{script_code}
use Rattle.merc_core.specs.declared.event.Event.{Event}
use Rattle.merc_core.specs.declared.event.NotNow.{NotNow}
use Rattle.merc_core.specs.contracts.event.Event as event
use Rattle.merc_core.specs.World.{World, start, outcome}
use Rattle.merc_core.specs.Events.{Answer, run}

-- the root script, the number of workers, and the events that were accepted so far, in order
pub record Execution : Type 0 where
  pub root : Script
  pub workers : ℕ
  pub events : List Event

-- what its events lead to
abbrev pub state_of : Execution → Answer
state_of e = run e.events (Ok (start e.root e.workers))

-- .. and this event after them
abbrev pub with_event : Event → Execution → Execution
with_event event e = record { root = e.root; workers = e.workers; events = e.events ++ event ∷ [] }

-- an answer without the world
abbrev pub told : Answer → Result (Unit {0}) NotNow
told (Ok w) = Ok tt
told (Err refused) = Err refused

abbrev pub outcome_of : Answer → Option Outcome
outcome_of (Ok w) = outcome w
outcome_of (Err refused) = None

-- all its events are accepted
abbrev pub IsAccepted : Execution → Type 0
IsAccepted e = (w : World) × (state_of e ≡ Ok w)

-- an execution is stored as its fields
abbrev pub execution_code : Coded Execution
execution_code =
    code_by (Script × (ℕ × List Event)) (coded× script_code (coded× coded_ℕ (coded_list event.the_row.coded)))
    (λ e. (e.root, (e.workers, e.events))) (λ p. record { root = p.0; workers = p.1.0; events = p.1.1 }) (λ _. refl)
