-- How a course that goes on by what it is told belongs to the course of a branch, in which that is put in.
use Rattle.std.specs.Prelude.{ℕ, Some, None}
use Rattle.merc_value.specs.Value.{Value}
use Rattle.merc_meaning.specs.Trace.{End, Done, Raised as RaisedEnd, TooDeep as TooDeepEnd}
use Rattle.merc_course.specs.Course.{GoalCourse, Ends, Tick, Answer, Meets, AtWait, AtSignal, AtFork, Reply, Given, Passed, Joined, Courses, no_courses, more_courses}
use Rattle.merc_plan.specs.Branch.{Hold, Fork, BranchCourse, BranchCourses, Over, Breaks, Steps, Finds, Awaits, Gives, Forks, no_branches, more_branches, Raised, TooDeep, Starving, closed}

mutual
  pub data Plays : GoalCourse → BranchCourse → Type 0 where
    ends_done : Plays (Ends Done) Over
    ends_raised : (text : ℕ) → Plays (Ends (RaisedEnd text)) (Breaks (Raised text))
    ends_deep : Plays (Ends TooDeepEnd) (Breaks TooDeep)
    steps : (course : GoalCourse) (branch : BranchCourse) → Plays course branch → Plays (Tick course) (Steps branch)
    finds : (hold : Hold) (course : GoalCourse) (branch : BranchCourse) → Plays course branch → Plays (Answer hold.env course) (Finds hold branch)
    waits : (variable cell : ℕ) (value : Value) (forked : Courses End) (next : Reply → GoalCourse) (branch : BranchCourse)
        → Plays (next (Given value)) branch → Plays (Meets (AtWait variable) forked next) (Awaits cell (Some value) branch)
    starves : (variable cell : ℕ) (forked : Courses End) (next : Reply → GoalCourse) → Plays (Meets (AtWait variable) forked next) (Awaits cell None (Breaks Starving))
    hands : (variable cell : ℕ) (value : Value) (forked : Courses End) (next : Reply → GoalCourse) (branch : BranchCourse)
        → Plays (next Passed) branch → Plays (Meets (AtSignal variable value) forked next) (Gives cell value branch)
    forks : (site : ℕ) (fork : Fork) (forked : Courses End) (next : Reply → GoalCourse) (branches : BranchCourses) (branch : BranchCourse)
        → PlayAll forked branches → ((steps : ℕ) → Plays (next (Joined steps)) branch) → Plays (Meets (AtFork site) forked next) (Forks site fork branches branch)

  -- conjuncts end at their first answer
  pub data PlayAll : Courses End → BranchCourses → Type 0 where
    play_none : PlayAll no_courses no_branches
    play_more : (course : GoalCourse) (courses : Courses End) (first : BranchCourse) (rest : BranchCourses)
        → Plays course (closed first) → PlayAll courses rest → PlayAll (more_courses course courses) (more_branches first rest)
