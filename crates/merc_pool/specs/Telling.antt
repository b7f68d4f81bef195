-- What a session answers, against the run that it tells.
use Rattle.std.specs.Prelude.{◌≡◌, ℕ, suc, List, Option, Some, None, length, map, slice_get, unwrap_or}
use Rattle.merc_meaning.specs.Trace.{Env, Run, RunEnd, RunDone, RunRaised, LimitPassed as PastLimit}
use Rattle.merc_value.specs.Block.{BlockData, no_value, root_values}
use Rattle.merc_machine.specs.declared.running.Stop.{Stop}
use Rattle.merc_machine.specs.declared.running.Stop.TheVariants.{Ended, Raised as RaisedStop, LimitPassed as LimitStop, NoMemory as NoMemoryStop}
use Rattle.merc_carried.specs.Runs.{answers_of, steps_before, HasEnded}
use Rattle.merc_pool.specs.declared.next.Next.{Next}
use Rattle.merc_pool.specs.declared.next.Next.TheVariants.{Answer, Done, Raised, LimitPassed, NoMemory}

-- a block's roots are the values of an answer; one without a value, which no answer variable is, has the empty list's
abbrev pub ShowsAnswer : Env → BlockData → Type 0
ShowsAnswer values block = root_values block ≡ map (λ value. unwrap_or value no_value) values

-- What comes next in a run behind so many answers: exactly its next answer, or exactly its end. Want of memory may come at any place.
abbrev pub NextIs : Run → ℕ → Next → Type 0
NextIs run given (Answer block) = (values : Env) × (slice_get (answers_of run) given ≡ Some values) × ShowsAnswer values block
NextIs run given Done = HasEnded run given RunDone
NextIs run given (Raised text) = HasEnded run given (RunRaised text)
NextIs run given LimitPassed = HasEnded run given PastLimit
NextIs run given NoMemory = Unit {0}

-- the number of answers that are given then
abbrev pub given_after : ℕ → Next → ℕ
given_after given (Answer block) = suc given
given_after given Done = given
given_after given (Raised text) = given
given_after given LimitPassed = given
given_after given NoMemory = given

-- the stop that each further call tells
abbrev pub last_of : Next → Option Stop
last_of (Answer block) = None
last_of Done = Some Ended
last_of (Raised text) = Some (RaisedStop text)
last_of LimitPassed = Some LimitStop
last_of NoMemory = Some NoMemoryStop

-- where something of a run is told, so many steps were counted: those before it
abbrev pub CountsNext : Run → ℕ → ℕ → Next → Type 0
CountsNext run given steps (Answer block) = steps ≡ steps_before (suc given) run
CountsNext run given steps Done = steps ≡ steps_before (suc given) run
CountsNext run given steps (Raised text) = steps ≡ steps_before (suc given) run
CountsNext run given steps LimitPassed = steps ≡ steps_before (suc given) run
CountsNext run given steps NoMemory = Unit {0}

-- the stops that are told again
abbrev pub IsLast : Stop → Type 0
IsLast Ended = Unit {0}
IsLast (RaisedStop text) = Unit {0}
IsLast LimitStop = Unit {0}
IsLast NoMemoryStop = Unit {0}
IsLast stop = ⊥

-- what such a stop says
abbrev pub Tells : Stop → Next → Type 0
Tells stop next = last_of next ≡ Some stop

-- What the end of a root says that has given so many answers, where so many were told: where the numbers differ, memory was refused on the way.
abbrev pub EndSays : (told given : ℕ) → Stop → Next → Type 0
EndSays told given stop (Answer block) = ⊥
EndSays told given stop Done = (told ≡ given) × (stop ≡ Ended)
EndSays told given stop (Raised text) = (told ≡ given) × (stop ≡ RaisedStop text)
EndSays told given stop LimitPassed = (told ≡ given) × (stop ≡ LimitStop)
EndSays told given stop NoMemory = Unit {0}
