-- What is known of courses from what they are up to a limit of steps.
use Rattle.merc_meaning.specs.Trace.{End, Done, Raised, TooDeep, RunEnd, RunDone, RunRaised, LimitPassed}
use Rattle.merc_course.specs.Course.{GoalCourse, RunCourse, Ends, Tick, Answer, Meets, Courses, no_courses, more_courses}

-- what is known of a goal's course from one up to a limit: where that passed its limit, the course is too deep
abbrev mutual
  pub known : RunCourse → GoalCourse
  known (Ends RunDone) = Ends Done
  known (Ends (RunRaised text)) = Ends (Raised text)
  known (Ends LimitPassed) = Ends TooDeep
  known (Tick rest) = Tick (known rest)
  known (Answer env rest) = Answer env (known rest)
  known (Meets what forked next) = Meets what (all_known forked) (λ reply. known (next reply))

  pub all_known : Courses RunEnd → Courses End
  all_known no_courses = no_courses
  all_known (more_courses first rest) = more_courses (known first) (all_known rest)
