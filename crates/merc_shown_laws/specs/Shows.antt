-- The run that a course shows along a script: the course is told at each wait its cell's value, and at each fork the steps to which the conjuncts' outcomes join,
-- which are steps of the run.
use Rattle.std.specs.Prelude.{◌≡◌, ℕ, suc, ◌-◌, List, Option, Some, None}
use Rattle.merc_value.specs.Value.{Value}
use Rattle.merc_meaning.specs.Trace.{Env, Run, RunEnd, RunDone, RunRaised, LimitPassed, Ends as RunEnds, Tick as RunTick, Answer as RunAnswer}
use Rattle.merc_script.specs.declared.outcome.Outcome.{Outcome}
use Rattle.merc_script.specs.declared.outcome.Outcome.TheVariants.{Ok as Fine, Raise, Limit, Starved}
use Rattle.merc_script.specs.declared.cells.Move.{Move}
use Rattle.merc_script.specs.Script.{Script, Ends, TickThen, WaitThen, SignalThen, ForkThen, Children, Cell, ends}
use Rattle.merc_script.specs.Joining.{joined}
use Rattle.merc_course.specs.Course.{RunCourse, Ends as CourseEnds, Tick, Answer, Meets, AtWait, AtSignal, AtFork, Reply, Given, Passed, Joined, Courses}
use Rattle.merc_carried.specs.KeepsTo.{ShowsEnd}
use Rattle.merc_carried.specs.Runs.{behind_steps}

-- Given is each cell's value, which is there where a script signals the cell.
module _ (values : ℕ → Option Value) where
  -- A course with so many steps left shows this run along a script. At a wait to which nobody gives a value it may be any run, and behind a fork that starves.
  pub data Shows : (left : ℕ) → Run → RunCourse → Script → Type 0 where
    done : (left made : ℕ) → Shows left (RunEnds RunDone) (CourseEnds RunDone) (Ends (Fine made))
    raised : (left made text : ℕ) → Shows left (RunEnds (RunRaised text)) (CourseEnds (RunRaised text)) (Ends (Raise text made))
    limited : (left : ℕ) → Shows left (RunEnds LimitPassed) (CourseEnds LimitPassed) (Ends Limit)
    ticks : (left : ℕ) (run : Run) (course : RunCourse) (rest : Script) → Shows left run course rest → Shows (suc left) (RunTick run) (Tick course) (TickThen rest)
    answers : (left : ℕ) (env : Env) (run : Run) (course : RunCourse) (rest : Script) → Shows left run course rest → Shows left (RunAnswer env run) (Answer env course) rest
    waits : (left : ℕ) (run : Run) (variable cell : ℕ) (value : Value) (forked : Courses RunEnd) (next : Reply → RunCourse) (rest : Script)
        → values cell ≡ Some value → Shows left run (next (Given value)) rest → Shows left run (Meets (AtWait variable) forked next) (WaitThen cell rest)
    starves : (left : ℕ) (run : Run) (variable cell : ℕ) (forked : Courses RunEnd) (next : Reply → RunCourse)
        → values cell ≡ None → Shows left run (Meets (AtWait variable) forked next) (WaitThen cell (Ends Starved))
    hands : (left : ℕ) (run : Run) (variable cell : ℕ) (value : Value) (forked : Courses RunEnd) (next : Reply → RunCourse) (rest : Script)
        → values cell ≡ Some value → Shows left run (next Passed) rest → Shows left run (Meets (AtSignal variable value) forked next) (SignalThen cell rest)
    goes_on : (left steps : ℕ) (run behind : Run) (site : ℕ) (cells : List Cell) (moves : List Move) (forked : Courses RunEnd) (next : Reply → RunCourse) (children : Children) (rest : Script)
        → joined left (ends children) ≡ Fine steps → run ≡ behind_steps steps behind → Shows (left - steps) behind (next (Joined steps)) rest
        → Shows left run (Meets (AtFork site) forked next) (ForkThen left cells moves children rest)
    ends_there : (left : ℕ) (run : Run) (site : ℕ) (cells : List Cell) (moves : List Move) (forked : Courses RunEnd) (next : Reply → RunCourse) (children : Children) (end : Outcome)
        → ((steps : ℕ) → joined left (ends children) ≡ Fine steps → ⊥) → ShowsEnd (joined left (ends children)) run
        → Shows left run (Meets (AtFork site) forked next) (ForkThen left cells moves children (Ends end))
