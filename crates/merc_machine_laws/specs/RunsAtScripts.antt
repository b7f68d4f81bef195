-- What runs of machines that stand at scripts come to.
use Rattle.std.specs.Prelude.{◌≡◌, ℕ, ◌+◌, Option}
use Rattle.merc_value.specs.Value.{Value}
use Rattle.merc_script.specs.declared.outcome.Outcome.TheVariants.{Ok as Fine, Raise, Limit}
use Rattle.merc_script.specs.Script.{Script, Ends}
use Rattle.merc_board.specs.Going.{ticks_before}
use Rattle.merc_course.specs.Course.{RunCourse}
use Rattle.merc_machine.specs.declared.machine.Machine.{Machine}
use Rattle.merc_machine.specs.declared.running.Stop.{Stop}
use Rattle.merc_machine.specs.declared.running.Stop.TheVariants.{Answer, Ended, Raised, LimitPassed, Starved, AtFork, AtWait, AtSignal, SliceOver, NoMemory}
use Rattle.merc_machine.specs.Coming.{all_left}
use Rattle.merc_machine.specs.Running.{Means, Ran}
use Rattle.merc_machine_laws.specs.AtScripts.{StandsAt}

-- A machine with this stop stands at what is left of its script; where it came to an end, the script ends so.
abbrev pub StopsAt : (ℕ → Option Value) → Machine → Stop → Script → Type 0
StopsAt values machine Answer script = StandsAt values machine script
StopsAt values machine Ended script = (steps : ℕ) × (script ≡ Ends (Fine steps))
StopsAt values machine (Raised text) script = (steps : ℕ) × (script ≡ Ends (Raise text steps))
StopsAt values machine LimitPassed script = script ≡ Ends Limit
StopsAt values machine Starved script = ⊥
StopsAt values machine (AtFork site) script = StandsAt values machine script
StopsAt values machine (AtWait variable) script = StandsAt values machine script
StopsAt values machine (AtSignal variable) script = StandsAt values machine script
StopsAt values machine SliceOver script = StandsAt values machine script
StopsAt values machine NoMemory script = ⊥

-- A machine that stood at a script passed as many of its Ticks as it made steps, and stopped behind them.
pub record PassedTicks (values : ℕ → Option Value) (before : Machine) (script : Script) (stop : Stop) (after : Machine) : Type 0 where
  pub made : ℕ
  pub spends : all_left after + made ≡ all_left before
  pub rest : Script
  pub ticks : script ≡ ticks_before made rest
  pub stops : StopsAt values after stop rest

-- So does each run, unless memory is refused.
abbrev pub RunsPassTicks : Type 0
RunsPassTicks = (values : ℕ → Option Value) (machine : Machine) (script : Script) → StandsAt values machine script
    → (stop : Stop) (after : Machine) (before counted slice : ℕ) → ((course : RunCourse) → Means machine course → Ran stop course machine after before counted slice)
    → (stop ≡ NoMemory → ⊥) → PassedTicks values machine script stop after
