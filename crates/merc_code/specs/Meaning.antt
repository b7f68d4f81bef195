-- What code means: the course that it makes from a state on.
use Rattle.std.specs.Prelude.{◌≡◌, ℕ, zero, suc, List, [], ◌∷◌}
use Rattle.merc_meaning.specs.Trace.{Env, RunEnd}
use Rattle.merc_course.specs.Course.{Meeting, Reply, RunCourse, Ends, Tick, Answer, Meets, Courses, no_courses, more_courses}
use Rattle.merc_code.specs.Steps.{Code, Codes, State, At, Stops, Moves, Ticks, Answers, Asks, step}

-- The course that a machine makes is what its steps say, one after the other; it has an end. Where it meets others, it goes on so for each reply, and the machines
-- of the conjuncts that are forked there make theirs.
mutual
  pub data Yields (codes : Codes) : State → RunCourse → Type 0 where
    stops : (state : State) (end : RunEnd) → step codes state ≡ Stops end → Yields codes state (Ends end)
    moves : (state next : State) (course : RunCourse) → step codes state ≡ Moves next → Yields codes next course → Yields codes state course
    ticks : (state next : State) (course : RunCourse) → step codes state ≡ Ticks next → Yields codes next course → Yields codes state (Tick course)
    answers : (state next : State) (values : Env) (course : RunCourse)
        → step codes state ≡ Answers values next → Yields codes next course → Yields codes state (Answer values course)
    asks : (state : State) (what : Meeting) (forked : List State) (next : Reply → State) (courses : Courses RunEnd) (behind : Reply → RunCourse)
        → step codes state ≡ Asks what forked next → YieldAll codes forked courses → ((reply : Reply) → Yields codes (next reply) (behind reply))
        → Yields codes state (Meets what courses behind)

  pub data YieldAll (codes : Codes) : List State → Courses RunEnd → Type 0 where
    yield_none : YieldAll codes [] no_courses
    yield_more : (state : State) (states : List State) (course : RunCourse) (courses : Courses RunEnd)
        → Yields codes state course → YieldAll codes states courses → YieldAll codes (state ∷ states) (more_courses course courses)

-- A piece of a course: from one state to another, with so many steps that count, no answer and no meeting.
pub data Goes (codes : Codes) : ℕ → State → State → Type 0 where
  stays : (state : State) → Goes codes zero state state
  moves : (count : ℕ) (state next last : State) → step codes state ≡ Moves next → Goes codes count next last → Goes codes count state last
  ticks : (count : ℕ) (state next last : State) → step codes state ≡ Ticks next → Goes codes count next last → Goes codes (suc count) state last

-- a goal's code at its beginning, with no variable bound, and so many steps that may be made
abbrev pub start : Code → ℕ → State
start code limit = At code [] [] [] [] limit
