-- Runs of machines that stand at scripts pass as many Ticks as they make steps.
use Rattle.std.proofs.Common.{◌≡◌, ℕ, zero, suc, Option, refl, ap, ◌∙◌, subst}
use Rattle.merc_value.specs.Value.{Value}
use Rattle.merc_meaning.specs.Trace.{Env, RunDone, RunRaised, LimitPassed as PastLimit}
use Rattle.merc_script.specs.declared.outcome.Outcome.TheVariants.{Ok as Fine, Raise, Limit}
use Rattle.merc_script.specs.Script.{Script, Ends, TickThen}
use Rattle.merc_board.specs.Going.{ticks_before}
use Rattle.merc_course.specs.Course.{AtFork as ForkMeeting, AtSignal as SignalMeeting, AtWait as WaitMeeting, RunCourse, Ends as CourseEnds, Tick, Answer as AnswerOf, Meets}
use Rattle.merc_plan.specs.Stands.{Stands, done, raised, limited, ticks, answers}
use Rattle.merc_machine.specs.declared.machine.Machine.{Machine}
use Rattle.merc_machine.specs.declared.running.Stop.{Stop}
use Rattle.merc_machine.specs.declared.running.Stop.TheVariants.{Answer, Ended, Raised, LimitPassed, Starved, AtFork, AtWait, AtSignal, SliceOver, NoMemory}
use Rattle.merc_machine.specs.Running.{Ran, RanTo, behind_steps}
use Rattle.merc_machine_laws.specs.AtScripts.{StandsAt}
use Rattle.merc_machine_laws.specs.RunsAtScripts.{PassedTicks, RunsPassTicks, StopsAt}

-- Given are the values of cells.
module _ (values : ℕ → Option Value) where
  tick_stands : (course : RunCourse) (script : Script) → Stands values (Tick course) script → (rest : Script) × (script ≡ TickThen rest) × Stands values course rest
  tick_stands course _ (ticks _ rest s) = (rest, refl, s)

  answer_stands : (env : Env) (course : RunCourse) (script : Script) → Stands values (AnswerOf env course) script → Stands values course script
  answer_stands env course script (answers _ _ _ s) = s

  end_stands : (script : Script) → Stands values (CourseEnds RunDone) script → (steps : ℕ) × (script ≡ Ends (Fine steps))
  end_stands _ (done made) = (made, refl)

  raise_stands : (text : ℕ) (script : Script) → Stands values (CourseEnds (RunRaised text)) script → (steps : ℕ) × (script ≡ Ends (Raise text steps))
  raise_stands text _ (raised _ made) = (made, refl)

  limit_stands : (script : Script) → Stands values (CourseEnds PastLimit) script → script ≡ Ends Limit
  limit_stands _ limited = refl

  behind_stands : (made : ℕ) (course : RunCourse) (script : Script) → Stands values (behind_steps made course) script
      → (rest : Script) × (script ≡ ticks_before made rest) × Stands values course rest
  behind_stands zero course script s = (script, refl, s)
  behind_stands (suc made) course script s =
      let first = tick_stands (behind_steps made course) script s in
      let others = behind_stands made course first.0 first.2 in
      (others.0, first.1 ∙ ap TickThen others.1, others.2)

-- Given is a machine that stands at a script.
module _ (values : ℕ → Option Value) (machine : Machine) (script : Script) (s : StandsAt values machine script) where
  passed : (stop : Stop) (after : Machine) (before counted made : ℕ) (rest : RunCourse) → RanTo s.course rest machine after before counted made
      → ((left : Script) → Stands values rest left → StopsAt values after stop left) → PassedTicks values machine script stop after
  passed stop after before counted made rest ran stops =
      let left = behind_stands values made rest script (subst (λ (course : RunCourse). Stands values course script) ran.whole s.stands) in
      record { made = made; spends = ran.spends; rest = left.0; ticks = left.1; stops = stops left.0 left.2 }

  pub run_passes : (stop : Stop) (after : Machine) (before counted slice : ℕ) → Ran stop s.course machine after before counted slice → (stop ≡ NoMemory → ⊥)
      → PassedTicks values machine script stop after
  run_passes Answer after before counted slice r fine =
      passed Answer after before counted r.0 (AnswerOf r.1 r.2) r.4 (λ left t. record { course = r.2; means = r.5; stands = answer_stands values r.1 r.2 left t })
  run_passes Ended after before counted slice r fine = passed Ended after before counted r.0 (CourseEnds RunDone) r.2 (λ left t. end_stands values left t)
  run_passes (Raised text) after before counted slice r fine =
      passed (Raised text) after before counted r.0 (CourseEnds (RunRaised text)) r.2 (λ left t. raise_stands values text left t)
  run_passes LimitPassed after before counted slice r fine = passed LimitPassed after before counted r.0 (CourseEnds PastLimit) r.2 (λ left t. limit_stands values left t)
  run_passes Starved after before counted slice r fine = absurd r
  run_passes (AtFork site) after before counted slice r fine =
      let rest = Meets (ForkMeeting site.number) r.forked r.next in
      passed (AtFork site) after before counted r.made rest r.ran (λ left t. record { course = rest; means = r.means; stands = t })
  run_passes (AtWait variable) after before counted slice r fine =
      let rest = Meets (WaitMeeting variable) r.forked r.next in
      passed (AtWait variable) after before counted r.made rest r.ran (λ left t. record { course = rest; means = r.means; stands = t })
  run_passes (AtSignal variable) after before counted slice r fine =
      let rest = Meets (SignalMeeting variable r.0) r.1.forked r.1.next in
      passed (AtSignal variable) after before counted r.1.made rest r.1.ran (λ left t. record { course = rest; means = r.1.means; stands = t })
  run_passes SliceOver after before counted slice r fine = passed SliceOver after before counted slice r.0 r.1 (λ left t. record { course = r.0; means = r.2; stands = t })
  run_passes NoMemory after before counted slice r fine = absurd (fine refl)

pub runs_pass : RunsPassTicks
runs_pass values machine script s stop after before counted slice ran fine = run_passes values machine script s stop after before counted slice (ran s.course s.means) fine
