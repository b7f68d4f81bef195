-- A machine that has a course before it stands at the beginning of a script, where each later wait is given its cell's value. This is what it is for a machine to
-- be a branch's load.
use Rattle.std.specs.Prelude.{◌≡◌, ℕ, List, Option, Some, None}
use Rattle.merc_value.specs.Value.{Value}
use Rattle.merc_meaning.specs.Trace.{Env, RunEnd, RunDone, RunRaised, LimitPassed}
use Rattle.merc_script.specs.declared.outcome.Outcome.{Outcome}
use Rattle.merc_script.specs.declared.outcome.Outcome.TheVariants.{Ok as Fine, Raise, Limit, Starved}
use Rattle.merc_script.specs.declared.cells.Move.{Move}
use Rattle.merc_script.specs.Script.{Script, Ends, TickThen, WaitThen, SignalThen, ForkThen, Children, NoChild, Child, Cell, ends}
use Rattle.merc_script.specs.Joining.{joined}
use Rattle.merc_course.specs.Course.{RunCourse, Ends as CourseEnds, Tick, Answer, Meets, AtWait, AtSignal, AtFork, Reply, Given, Passed, Joined, Courses, no_courses, more_courses}

-- Given is each cell's value, which is there where a script signals the cell.
module _ (values : ℕ → Option Value) where
  mutual
    pub data Stands : RunCourse → Script → Type 0 where
      done : (made : ℕ) → Stands (CourseEnds RunDone) (Ends (Fine made))
      raised : (text made : ℕ) → Stands (CourseEnds (RunRaised text)) (Ends (Raise text made))
      limited : Stands (CourseEnds LimitPassed) (Ends Limit)
      ticks : (course : RunCourse) (rest : Script) → Stands course rest → Stands (Tick course) (TickThen rest)
      answers : (env : Env) (course : RunCourse) (rest : Script) → Stands course rest → Stands (Answer env course) rest
      waits : (variable cell : ℕ) (value : Value) (forked : Courses RunEnd) (next : Reply → RunCourse) (rest : Script)
          → values cell ≡ Some value → Stands (next (Given value)) rest → Stands (Meets (AtWait variable) forked next) (WaitThen cell rest)
      starves : (variable cell : ℕ) (forked : Courses RunEnd) (next : Reply → RunCourse) → values cell ≡ None → Stands (Meets (AtWait variable) forked next) (WaitThen cell (Ends Starved))
      hands : (variable cell : ℕ) (value : Value) (forked : Courses RunEnd) (next : Reply → RunCourse) (rest : Script)
          → values cell ≡ Some value → Stands (next Passed) rest → Stands (Meets (AtSignal variable value) forked next) (SignalThen cell rest)
      goes_on : (site limit steps : ℕ) (cells : List Cell) (moves : List Move) (forked : Courses RunEnd) (next : Reply → RunCourse) (children : Children) (rest : Script)
          → joined limit (ends children) ≡ Fine steps → StandAll forked children → Stands (next (Joined steps)) rest
          → Stands (Meets (AtFork site) forked next) (ForkThen limit cells moves children rest)
      ends_there : (site limit : ℕ) (cells : List Cell) (moves : List Move) (forked : Courses RunEnd) (next : Reply → RunCourse) (children : Children) (end : Outcome)
          → ((steps : ℕ) → joined limit (ends children) ≡ Fine steps → ⊥) → StandAll forked children
          → Stands (Meets (AtFork site) forked next) (ForkThen limit cells moves children (Ends end))

    pub data StandAll : Courses RunEnd → Children → Type 0 where
      stand_none : StandAll no_courses NoChild
      stand_more : (course : RunCourse) (courses : Courses RunEnd) (first : Script) (others : Children)
          → Stands course first → StandAll courses others → StandAll (more_courses course courses) (Child first others)
