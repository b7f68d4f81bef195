-- What machines are behind the calls by which they meet others, whatever course they had before them.
use Rattle.std.specs.Prelude.{◌≡◌, ℕ, Some}
use Rattle.merc_value.specs.Value.{Value}
use Rattle.merc_graded_tree.specs.declared.basic.Site.{Site}
use Rattle.merc_course.specs.Course.{AtFork, AtWait, AtSignal, Reply, Given, Passed, Joined, RunCourse, Meets, Courses}
use Rattle.merc_meaning.specs.Trace.{RunEnd}
use Rattle.merc_code.specs.Meaning.{start}
use Rattle.merc_code.specs.Steps.{Code, Codes}
use Rattle.merc_last_calls.specs.LeanMeaning.{YieldsLean}
use Rattle.merc_load.specs.declared.loaded.Loaded.{Loaded}
use Rattle.merc_load.specs.Loaded.{IsProgram}
use Rattle.merc_machine.specs.declared.machine.Machine.{Machine}
use Rattle.merc_machine.specs.Running.{Means, course_at}

-- A machine that was started for the goal that is asked of a loaded program, with so many steps.
abbrev pub IsStarted : Loaded → ℕ → Machine → Type 0
IsStarted program limit machine = (codes : Codes) (query : Code) → IsProgram program codes query → (course : RunCourse) → YieldsLean codes (start query limit) course → Means machine course

-- The machine of a conjunct, by its number, of the fork of a site at which its parent stands.
abbrev pub IsConjunctOf : Machine → Site → ℕ → Machine → Type 0
IsConjunctOf parent site number machine =
    (forked : Courses RunEnd) (next : Reply → RunCourse) → Means parent (Meets (AtFork site.number) forked next) → (course : RunCourse) → course_at forked number ≡ Some course → Means machine course

-- A machine behind a fork whose conjuncts ended well, in so many steps.
abbrev pub IsRejoined : Machine → Site → ℕ → Machine → Type 0
IsRejoined before site steps machine = (forked : Courses RunEnd) (next : Reply → RunCourse) → Means before (Meets (AtFork site.number) forked next) → Means machine (next (Joined steps))

-- A machine behind a wait for a variable's value, which it was given.
abbrev pub IsGiven : Machine → ℕ → Value → Machine → Type 0
IsGiven before variable value machine = (forked : Courses RunEnd) (next : Reply → RunCourse) → Means before (Meets (AtWait variable) forked next) → Means machine (next (Given value))

-- A machine behind a signal of a variable's value.
abbrev pub HasPassed : Machine → ℕ → Value → Machine → Type 0
HasPassed before variable value machine = (forked : Courses RunEnd) (next : Reply → RunCourse) → Means before (Meets (AtSignal variable value) forked next) → Means machine (next Passed)
