-- How what a goal does beside others keeps to its branch's script: a course that goes on by what it is told goes through the script where each wait is given its
-- cell's value and each fork its conjuncts' joined steps; and what it asks for by variables is what the script names by cells.
use Rattle.std.specs.Prelude.{◌≡◌, ℕ, suc, ◌+◌, ◌-◌, List, Option, Some, None, slice_get}
use Rattle.merc_value.specs.Value.{Value}
use Rattle.merc_meaning.specs.Trace.{Env, Run, RunEnd, RunDone, RunRaised, LimitPassed, Ends as RunEnds, Tick as RunTick, Answer as RunAnswer}
use Rattle.merc_script.specs.declared.outcome.Outcome.{Outcome}
use Rattle.merc_script.specs.declared.outcome.Outcome.TheVariants.{Ok as Fine, Raise, Limit, Starved, NoMemory}
use Rattle.merc_script.specs.declared.cells.Move.{Move}
use Rattle.merc_script.specs.Script.{Script, Ends, TickThen, WaitThen, SignalThen, ForkThen, Children, NoChild, Child, Cell, ends}
use Rattle.merc_script.specs.Joining.{joined, later}
use Rattle.merc_course.specs.Course.{RunCourse, Ends as CourseEnds, Tick, Answer, Meets, AtWait, AtSignal, AtFork, Reply, Given, Passed, Joined, Courses, no_courses, more_courses}
use Rattle.merc_rights.specs.declared.sites.SiteInfo.{SiteInfo}
use Rattle.merc_board.specs.Rights.{Due, Owed, Rights, wait_for, signal_for}
use Rattle.merc_carried.specs.Sharing.{IsForkOf, rights_of_child, rights_behind}
use Rattle.merc_carried.specs.Runs.{behind_steps}

-- the same rights, with others to wait, and with others to signal
abbrev pub with_waits : List Due → Rights → Rights
with_waits waits rights = record { waits = waits; signals = rights.signals }

abbrev pub with_signals : List Owed → Rights → Rights
with_signals signals rights = record { waits = rights.waits; signals = signals }

-- the run behind a fork of this outcome, where it is no good one
abbrev pub ShowsEnd : Outcome → Run → Type 0
ShowsEnd (Fine steps) run = Unit {0}
ShowsEnd (Raise text steps) run = run ≡ behind_steps steps (RunEnds (RunRaised text))
ShowsEnd Limit run = (steps : ℕ) × (run ≡ behind_steps steps (RunEnds LimitPassed))
ShowsEnd Starved run = Unit {0}
ShowsEnd NoMemory run = Unit {0}

-- Given are what stands at each site, and each cell's value, which is there where a script signals the cell.
module _ (sites : List SiteInfo) (values : ℕ → Option Value) where
  mutual
    -- A branch with these rights, with so many steps left and so many made, shows this run where its course goes through its script. A right that it asks for
    -- by a variable is to the cell that the script names, and a fork's limit and the numbers at ends are those of its steps.
    pub data KeepsTo : Rights → (left made : ℕ) → Run → RunCourse → Script → Type 0 where
      done : (rights : Rights) (left made : ℕ) → KeepsTo rights left made (RunEnds RunDone) (CourseEnds RunDone) (Ends (Fine made))
      raised : (rights : Rights) (left made text : ℕ) → KeepsTo rights left made (RunEnds (RunRaised text)) (CourseEnds (RunRaised text)) (Ends (Raise text made))
      limited : (rights : Rights) (left made : ℕ) → KeepsTo rights left made (RunEnds LimitPassed) (CourseEnds LimitPassed) (Ends Limit)
      ticks : (rights : Rights) (left made : ℕ) (run : Run) (course : RunCourse) (rest : Script)
          → KeepsTo rights left (suc made) run course rest → KeepsTo rights (suc left) made (RunTick run) (Tick course) (TickThen rest)
      answers : (rights : Rights) (left made : ℕ) (env : Env) (run : Run) (course : RunCourse) (rest : Script)
          → KeepsTo rights left made run course rest → KeepsTo rights left made (RunAnswer env run) (Answer env course) rest
      waits : (rights : Rights) (left made : ℕ) (run : Run) (variable cell : ℕ) (others : List Due) (value : Value) (forked : Courses RunEnd) (next : Reply → RunCourse) (rest : Script)
          → wait_for variable rights.waits ≡ Some (cell, others) → values cell ≡ Some value → KeepsTo (with_waits others rights) left made run (next (Given value)) rest
          → KeepsTo rights left made run (Meets (AtWait variable) forked next) (WaitThen cell rest)
      starves : (rights : Rights) (left made : ℕ) (run : Run) (variable cell : ℕ) (others : List Due) (forked : Courses RunEnd) (next : Reply → RunCourse)
          → wait_for variable rights.waits ≡ Some (cell, others) → values cell ≡ None
          → KeepsTo rights left made run (Meets (AtWait variable) forked next) (WaitThen cell (Ends Starved))
      hands : (rights : Rights) (left made : ℕ) (run : Run) (variable : ℕ) (owed : Owed) (others : List Owed) (value : Value) (forked : Courses RunEnd) (next : Reply → RunCourse) (rest : Script)
          → signal_for variable rights.signals ≡ Some (owed, others) → values owed.cell ≡ Some value → KeepsTo (with_signals others rights) left made run (next Passed) rest
          → KeepsTo rights left made run (Meets (AtSignal variable value) forked next) (SignalThen owed.cell rest)
      goes_on : (rights : Rights) (left made steps : ℕ) (run behind : Run) (site : ℕ) (info : SiteInfo) (cells : List Cell) (moves : List Move) (forked : Courses RunEnd) (next : Reply → RunCourse)
          (children : Children) (rest : Script) → slice_get sites site ≡ Some info → IsForkOf info cells children → AllKeepTo info cells rights left 1 forked children
          → joined left (ends children) ≡ Fine steps → run ≡ behind_steps steps behind → KeepsTo (rights_behind info cells rights) (left - steps) (made + steps) behind (next (Joined steps)) rest
          → KeepsTo rights left made run (Meets (AtFork site) forked next) (ForkThen left cells moves children rest)
      ends_there : (rights : Rights) (left made : ℕ) (run : Run) (site : ℕ) (info : SiteInfo) (cells : List Cell) (moves : List Move) (forked : Courses RunEnd) (next : Reply → RunCourse)
          (children : Children) (end : Outcome) → slice_get sites site ≡ Some info → IsForkOf info cells children → AllKeepTo info cells rights left 1 forked children
          → ((steps : ℕ) → joined left (ends children) ≡ Fine steps → ⊥) → end ≡ later made (joined left (ends children)) → ShowsEnd (joined left (ends children)) run
          → KeepsTo rights left made run (Meets (AtFork site) forked next) (ForkThen left cells moves children (Ends end))

    -- The conjuncts that such a branch forks at a site, from the one of this number on, each with as many steps left as the branch has, keep to their scripts.
    pub data AllKeepTo : SiteInfo → List Cell → Rights → (left number : ℕ) → Courses RunEnd → Children → Type 0 where
      keep_none : (info : SiteInfo) (cells : List Cell) (rights : Rights) (left number : ℕ) → AllKeepTo info cells rights left number no_courses NoChild
      keep_more : (info : SiteInfo) (cells : List Cell) (rights : Rights) (left number : ℕ) (run : Run) (course : RunCourse) (courses : Courses RunEnd) (first : Script) (others : Children)
          → KeepsTo (rights_of_child info cells rights number) left 0 run course first → AllKeepTo info cells rights left (suc number) courses others
          → AllKeepTo info cells rights left number (more_courses course courses) (Child first others)
