-- What a slice of a branch comes to.
use Rattle.std.specs.Prelude.{◌≡◌, ◌≢◌, ℕ, suc, ◌+◌, ◌-◌, ◌≤◌, List, [], Option, Some, slice_get}
use Rattle.merc_value.specs.Value.{Value}
use Rattle.merc_meaning.specs.Trace.{Env, Run, RunEnd, Answer as RunAnswer}
use Rattle.merc_meaning.specs.Counting.{counted}
use Rattle.merc_script.specs.declared.outcome.Outcome.{Outcome}
use Rattle.merc_script.specs.Script.{Script}
use Rattle.merc_script.specs.Places.{Place}
use Rattle.merc_course.specs.Course.{Meeting, RunCourse, Meets, AtWait, AtFork, AtSignal, Reply, Courses}
use Rattle.merc_rights.specs.declared.sites.SiteInfo.{SiteInfo}
use Rattle.merc_code.specs.declared.instruction.Instruction.{Instruction}
use Rattle.merc_code.specs.declared.instruction.Instruction.TheVariants.{Fork, Wait, Signal}
use Rattle.merc_machine.specs.declared.machine.Machine.{Machine}
use Rattle.merc_machine.specs.declared.running.Stop.{Stop}
use Rattle.merc_machine.specs.declared.running.Stop.TheVariants.{Answer, Ended, Raised, LimitPassed, Starved as StarvedStop, AtFork as AtForkStop, AtWait as AtWaitStop, AtSignal as AtSignalStop, SliceOver, NoMemory as NoMemoryStop}
use Rattle.merc_machine.specs.Coming.{MeetsAt}
use Rattle.merc_machine.specs.Running.{HasAnswered}
use Rattle.merc_board.specs.Rights.{Rights}
use Rattle.merc_board.specs.Going.{Ticked}
use Rattle.merc_carried.specs.Runs.{IsLeftOf}
use Rattle.merc_pool.specs.declared.engine.Engine as Engine
use Rattle.merc_pool.specs.declared.load.Progress.{Progress}
use Rattle.merc_pool.specs.Carrying.{made_by, IsOn, HasStopped, Stands}

module _ {M : Type 0} (m : Engine.Ghosts M) (sites : List SiteInfo) (root : Script) (whole : Run) where
  -- The machine has an answer, which is the root's next one, and goes on behind it.
  pub record IsAnswering (progress : Progress M) (rights : Rights) (at : Place) : Type 0 where
    pub values : Env
    pub course : RunCourse
    pub rest : Script
    pub answered : HasAnswered (m.seen progress.machine) values
    pub is_next : at.name ≡ [] → (behind : Run) × IsLeftOf whole progress.given (made_by (m.seen progress.machine)) (RunAnswer values behind)
    pub on : IsOn m sites root whole (record progress { given = suc progress.given }) rights at course rest

  -- The machine stands at an instruction at which it meets others so.
  pub record IsMeeting (progress : Progress M) (rights : Rights) (at : Place) (what : Meeting) (instruction : Instruction) : Type 0 where
    pub forked : Courses RunEnd
    pub next : Reply → RunCourse
    pub rest : Script
    pub meets : MeetsAt (m.seen progress.machine) instruction
    pub on : IsOn m sites root whole progress rights at (Meets what forked next) rest

  -- the machine of a branch with these rights has come to a place, where it has stopped so
  abbrev pub StoppedAt : Progress M → Rights → Place → Stop → Type 0
  StoppedAt progress rights at Answer = IsAnswering progress rights at
  StoppedAt progress rights at Ended = (end : Outcome) × HasStopped m sites root whole progress Ended end at
  StoppedAt progress rights at (Raised text) = (end : Outcome) × HasStopped m sites root whole progress (Raised text) end at
  StoppedAt progress rights at LimitPassed = (end : Outcome) × HasStopped m sites root whole progress LimitPassed end at
  StoppedAt progress rights at StarvedStop = ⊥
  StoppedAt progress rights at (AtForkStop site) = (progress.stop ≡ AtForkStop site) × IsMeeting progress rights at (AtFork site.number) (Fork site)
  StoppedAt progress rights at (AtWaitStop variable) = (progress.stop ≡ AtWaitStop variable) × IsMeeting progress rights at (AtWait variable) (Wait variable)
  StoppedAt progress rights at (AtSignalStop variable) = (value : Value) × IsMeeting progress rights at (AtSignal variable value) (Signal variable)
  StoppedAt progress rights at SliceOver = Stands m sites root whole progress rights at
  StoppedAt progress rights at NoMemoryStop = ⊥

  -- From one place it has come to another, by so many steps of a slice, and has stopped so.
  pub record HasRun (slice : ℕ) (old progress : Progress M) (rights : Rights) (from : Place) (stop : Stop) : Type 0 where
    pub at : Place
    pub made : ℕ
    pub ticked : Ticked from made at
    pub more : made_by (m.seen progress.machine) ≡ made_by (m.seen old.machine) + made
    pub within : made ≤ slice
    pub reported : progress.reported ≡ old.reported
    pub stopped : StoppedAt progress rights at stop

  -- where memory was refused nothing is known
  abbrev pub RunsTo : (slice : ℕ) → (old progress : Progress M) → Rights → Place → Stop → Type 0
  RunsTo slice old progress rights from stop = stop ≢ NoMemoryStop → HasRun slice old progress rights from stop

-- a counter has counted the steps that a machine made up to a stop
abbrev pub CountsSlice : (old machine : Machine) → (before after : ℕ) → Stop → Type 0
CountsSlice old machine before after stop = stop ≢ NoMemoryStop → after ≡ counted before (made_by machine - made_by old)
