-- A machine that stands at a script, where it meets others: the course that it has before it there.
use Rattle.std.proofs.Common.{◌≡◌, ℕ, [], ◌∷◌, Option, Some, refl, ap, ◌∙◌, subst}
use Rattle.merc_graded_tree.specs.declared.basic.Site.{Site}
use Rattle.merc_value.specs.Value.{Value}
use Rattle.merc_meaning.specs.Trace.{RunEnd}
use Rattle.merc_meaning.specs.Steps.{value_at}
use Rattle.merc_script.specs.Script.{Script}
use Rattle.merc_course.specs.Course.{AtFork, AtSignal, AtWait, Courses, Meeting, Meets, Reply, RunCourse, left_after}
use Rattle.merc_course.specs.Courses.{told}
use Rattle.merc_plan.specs.Stands.{Stands}
use Rattle.merc_code.specs.declared.instruction.Instruction.TheVariants.{Fork, Wait, Signal}
use Rattle.merc_code.specs.Steps.{Asks, At, forked_at, signals}
use Rattle.merc_last_calls.specs.LastCalls.{step_lean}
use Rattle.merc_machine.specs.declared.machine.Machine.{Machine}
use Rattle.merc_machine.specs.Coming.{MeetsAt, all_left}
use Rattle.merc_machine.specs.Running.{Means}
use Rattle.merc_machine.proofs.Advancing.{yields-asks}
use Rattle.merc_machine.proofs.MetAt.{met-at, signal-there}
use Rattle.merc_machine_laws.specs.AtScripts.{StandsAt}

-- the course that a machine has before it where it meets others so, and the script at which that stands
pub record StandsMeeting (values : ℕ → Option Value) (machine : Machine) (what : Meeting) (script : Script) : Type 0 where
  pub forked : Courses RunEnd
  pub next : Reply → RunCourse
  pub means : Means machine (Meets what forked next)
  pub stands : Stands values (Meets what forked next) script

-- Given is a machine that stands at a script.
module _ (values : ℕ → Option Value) (machine : Machine) (script : Script) (s : StandsAt values machine script) where
  meets_so : (what : Meeting) (forked : Courses RunEnd) (next : Reply → RunCourse) → s.course ≡ Meets what forked next → StandsMeeting values machine what script
  meets_so what forked next whole = record {
    forked = forked;
    next = next;
    means = subst (λ (course : RunCourse). Means machine course) whole s.means;
    stands = subst (λ (course : RunCourse). Stands values course script) whole s.stands;
  }

  pub at_fork : (site : Site) → MeetsAt machine (Fork site) → StandsMeeting values machine (AtFork site.number) script
  at_fork site at =
      let met = met-at machine (Fork site) s.course s.means.stands_before at in
      let state = At (Fork site ∷ met.rest) met.env met.marks met.callers met.choices (all_left machine) in
      let conjuncts = forked_at (met.codes.conjuncts site.number) met.env (all_left machine) in
      let behind = λ (reply : Reply). At met.rest met.env met.marks met.callers met.choices (left_after (all_left machine) reply) in
      let asked = yields-asks met.codes state (AtFork site.number) conjuncts behind s.course met.yields refl in
      meets_so (AtFork site.number) asked.courses asked.behind asked.whole

  pub at_wait : (variable : ℕ) → MeetsAt machine (Wait variable) → StandsMeeting values machine (AtWait variable) script
  at_wait variable at =
      let met = met-at machine (Wait variable) s.course s.means.stands_before at in
      let state = At (Wait variable ∷ met.rest) met.env met.marks met.callers met.choices (all_left machine) in
      let behind = λ (reply : Reply). At met.rest (told met.env variable reply) met.marks met.callers met.choices (left_after (all_left machine) reply) in
      let asked = yields-asks met.codes state (AtWait variable) [] behind s.course met.yields refl in
      meets_so (AtWait variable) asked.courses asked.behind asked.whole

  pub at_signal : (variable : ℕ) → MeetsAt machine (Signal variable) → (value : Value) × StandsMeeting values machine (AtSignal variable value) script
  at_signal variable at =
      let met = met-at machine (Signal variable) s.course s.means.stands_before at in
      let value = met.ready.0 in
      let state = At (Signal variable ∷ met.rest) met.env met.marks met.callers met.choices (all_left machine) in
      let behind = λ (reply : Reply). At met.rest met.env met.marks met.callers met.choices (left_after (all_left machine) reply) in
      let has : value_at met.env variable ≡ Some value = met.runs.stands.frame.values variable (signal-there machine variable s.course met) ∙ met.ready.1 in
      let step : step_lean met.codes state ≡ Asks (AtSignal variable value) [] behind = ap (signals met.rest met.env met.marks met.callers met.choices (all_left machine) variable) has in
      let asked = yields-asks met.codes state (AtSignal variable value) [] behind s.course met.yields step in
      (value, meets_so (AtSignal variable value) asked.courses asked.behind asked.whole)
