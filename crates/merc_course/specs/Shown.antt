-- What the answers of a course show.
use Rattle.std.specs.Prelude.{ℕ, List, map}
use Rattle.merc_meaning.specs.Steps.{value_at}
use Rattle.merc_course.specs.Course.{RunCourse, Ends, Tick, Answer, Meets}

-- of each answer of a course the values of these variables
abbrev pub shown : List ℕ → RunCourse → RunCourse
shown variables (Ends end) = Ends end
shown variables (Tick rest) = Tick (shown variables rest)
shown variables (Answer env rest) = Answer (map (value_at env) variables) (shown variables rest)
shown variables (Meets what forked next) = Meets what forked (λ reply. shown variables (next reply))
