-- Worked examples of runs of machines that stand at scripts.
use Rattle.std.specs.Prelude.{◌≡◌, ℕ, zero, suc, Option, None, refl}
use Rattle.std.proofs.Common.{arith}
use Rattle.merc_value.specs.Value.{Value}
use Rattle.merc_script.specs.declared.outcome.Outcome.TheVariants.{Ok as Fine, Raise, Limit}
use Rattle.merc_script.specs.Script.{Script, Ends, TickThen, WaitThen}
use Rattle.merc_board.specs.Going.{ticks_before}
use Rattle.merc_course.specs.Course.{RunCourse}
use Rattle.merc_machine.specs.declared.machine.Machine.{Machine}
use Rattle.merc_machine.specs.declared.running.Stop.TheVariants.{Ended, Raised, LimitPassed, SliceOver}
use Rattle.merc_machine.specs.Running.{Means, Ran}
use Rattle.merc_machine_laws.specs.AtScripts.{StandsAt}
use Rattle.merc_machine_laws.specs.RunsAtScripts.{PassedTicks, RunsPassTicks, StopsAt}

-- no cell has a value
abbrev values : ℕ → Option Value
values cell = None

abbrev two : Script
two = TickThen (TickThen (Ends (Fine 2)))

-- Given are machines.
module _ (machine after : Machine) where
  stops-end : StopsAt values machine Ended (Ends (Fine 3))
  stops-end = (3, refl)

  stops-before_end : StopsAt values machine Ended two → ⊥
  stops-before_end stops = let is = stops.1 in absurd cc

  stops-raise : StopsAt values machine (Raised 4) (Ends (Raise 4 1))
  stops-raise = (1, refl)

  stops-other_text : StopsAt values machine (Raised 3) (Ends (Raise 4 1)) → ⊥
  stops-other_text stops = let is = stops.1 in absurd cc

  stops-limit : StopsAt values machine LimitPassed (Ends Limit)
  stops-limit = refl

  stops-limit_not : StopsAt values machine LimitPassed (Ends (Fine 3)) → ⊥
  stops-limit_not stops = cc

  stops-slice : StandsAt values machine two → StopsAt values machine SliceOver two
  stops-slice stands = stands

  -- two steps of five, to the end
  passed-example : PassedTicks values (record machine { left = 0; later = 5 }) two Ended (record after { left = 0; later = 3 })
  passed-example = record { made = 2; spends = refl; rest = Ends (Fine 2); ticks = refl; stops = (2, refl) }

  one_tick : (made : ℕ) (rest : Script) → made ≡ 1 → two ≡ ticks_before made rest → (steps : ℕ) → rest ≡ Ends (Fine steps) → ⊥
  one_tick zero rest one ticks steps is = absurd cc
  one_tick (suc zero) rest one ticks steps is = absurd cc
  one_tick (suc (suc made)) rest one ticks steps is = absurd cc

  -- One step passes one Tick, and another one stands behind it.
  passed-one : PassedTicks values (record machine { left = 0; later = 5 }) two Ended (record after { left = 0; later = 4 }) → ⊥
  passed-one passed = one_tick passed.made passed.rest (omega (arith, passed.spends)) passed.ticks passed.stops.0 passed.stops.1

  no_ticks : (made : ℕ) (rest script : Script) → WaitThen 7 script ≡ ticks_before made rest → (steps : ℕ) → rest ≡ Ends (Fine steps) → ⊥
  no_ticks zero rest script ticks steps is = absurd cc
  no_ticks (suc made) rest script ticks steps is = absurd cc

  -- A machine that stands at a wait does not end in its run.
  runs-not : RunsPassTicks → (script : Script) → StandsAt values machine (WaitThen 7 script) → (before counted slice : ℕ)
      → ((course : RunCourse) → Means machine course → Ran Ended course machine after before counted slice) → ⊥
  runs-not law script stands before counted slice ran =
      let passed = law values machine (WaitThen 7 script) stands Ended after before counted slice ran (λ e. absurd cc) in
      no_ticks passed.made passed.rest script passed.ticks passed.stops.0 passed.stops.1

  -- Behind its slice it stands at what is left.
  runs-example : RunsPassTicks → (script : Script) → StandsAt values machine script → (before counted : ℕ)
      → ((course : RunCourse) → Means machine course → Ran SliceOver course machine after before counted 2) → (rest : Script) × StandsAt values after rest
  runs-example law script stands before counted ran =
      let passed = law values machine script stands SliceOver after before counted 2 ran (λ e. absurd cc) in
      (passed.rest, passed.stops)
