-- A course is what a goal does beside others, as far as it is for the goal to say: its steps and answers in order, the places at which it meets others, and
-- how it ends. Where it meets others it waits for a value, hands one on, or forks its conjuncts, and goes on by what it is told there.
use Rattle.std.specs.Prelude.{ℕ, suc, zero, ◌-◌, List, [], ◌∷◌}
use Rattle.merc_value.specs.Value.{Value}
use Rattle.merc_meaning.specs.Trace.{Env, Events, Ends as EventEnds, Tick as EventTick, Answer as EventAnswer, End, Done, Raised, TooDeep, RunEnd, RunDone, RunRaised, LimitPassed}

-- A place at which a goal meets others: it waits for the variable's value, hands the variable's value on, or forks the conjuncts of a site.
pub data Meeting : Type 0 where
  AtWait : (variable : ℕ) → Meeting
  AtSignal : (variable : ℕ) (value : Value) → Meeting
  AtFork : (site : ℕ) → Meeting

-- What it is told there: the value for which it waited, that the value was handed on, or that all conjuncts have ended well, in so many steps.
pub data Reply : Type 0 where
  Given : (value : Value) → Reply
  Passed : Reply
  Joined : (steps : ℕ) → Reply

-- A Tick is one entry into a procedure; an Answer gives the variables' values. At a meeting stand the courses of the conjuncts that are forked there, none at
-- a wait and at a signal, and for each reply the course behind it.
mutual
  pub data Course (E : Type 0) : Type 0 where
    Ends : (end : E) → Course E
    Tick : (rest : Course E) → Course E
    Answer : (env : Env) (rest : Course E) → Course E
    Meets : (what : Meeting) (forked : Courses E) (next : Reply → Course E) → Course E

  pub data Courses (E : Type 0) : Type 0 where
    no_courses : Courses E
    more_courses : (first : Course E) (rest : Courses E) → Courses E

-- a goal's course ends as its trace does, and one up to a limit of steps as a run does
abbrev pub GoalCourse : Type 0
GoalCourse = Course End

abbrev pub RunCourse : Type 0
RunCourse = Course RunEnd

-- a trace, or a run, as a course that meets nobody
abbrev pub whole : {E : Type 0} → Events E → Course E
whole (EventEnds end) = Ends end
whole (EventTick rest) = Tick (whole rest)
whole (EventAnswer env rest) = Answer env (whole rest)

-- the course with these replies put in, one at each meeting in order
abbrev pub replied : {E : Type 0} → List Reply → Course E → Course E
replied replies (Ends end) = Ends end
replied replies (Tick rest) = Tick (replied replies rest)
replied replies (Answer env rest) = Answer env (replied replies rest)
replied [] (Meets what forked next) = Meets what forked next
replied (reply ∷ replies) (Meets what forked next) = replied replies (next reply)

-- one answer and no more
abbrev pub one_answer : Env → GoalCourse
one_answer env = Answer env (Ends Done)

-- one course and, where it ends with no further answer, then another
abbrev pub after : GoalCourse → GoalCourse → GoalCourse
after (Ends Done) other = other
after (Ends (Raised text)) other = Ends (Raised text)
after (Ends TooDeep) other = Ends TooDeep
after (Tick rest) other = Tick (after rest other)
after (Answer env rest) other = Answer env (after rest other)
after (Meets what forked next) other = Meets what forked (λ reply. after (next reply) other)

-- each answer is replaced by the course that goes on from it, up to the first end that is not Done
abbrev pub each : (Env → GoalCourse) → GoalCourse → GoalCourse
each go_on (Ends end) = Ends end
each go_on (Tick rest) = Tick (each go_on rest)
each go_on (Answer env rest) = after (go_on env) (each go_on rest)
each go_on (Meets what forked next) = Meets what forked (λ reply. each go_on (next reply))

-- each answer is changed in this way
abbrev pub taken_back : (Env → Env) → GoalCourse → GoalCourse
taken_back change (Ends end) = Ends end
taken_back change (Tick rest) = Tick (taken_back change rest)
taken_back change (Answer env rest) = Answer (change env) (taken_back change rest)
taken_back change (Meets what forked next) = Meets what forked (λ reply. taken_back change (next reply))

-- the course up to its first answer, which ends it
abbrev pub first_alone : GoalCourse → GoalCourse
first_alone (Ends end) = Ends end
first_alone (Tick rest) = Tick (first_alone rest)
first_alone (Answer env rest) = one_answer env
first_alone (Meets what forked next) = Meets what forked (λ reply. first_alone (next reply))

-- of a condition's course: with an answer, each is replaced by the course that goes on from it; with none where it ends Done, the other course behind it
abbrev pub choose : (Env → GoalCourse) → GoalCourse → GoalCourse → GoalCourse
choose go_on other (Ends Done) = other
choose go_on other (Ends (Raised text)) = Ends (Raised text)
choose go_on other (Ends TooDeep) = Ends TooDeep
choose go_on other (Tick rest) = Tick (choose go_on other rest)
choose go_on other (Answer env rest) = each go_on (Answer env rest)
choose go_on other (Meets what forked next) = Meets what forked (λ reply. choose go_on other (next reply))

-- of a goal's course: with an answer, what is before it; with none where it ends Done, one answer behind it
abbrev pub negated : Env → GoalCourse → GoalCourse
negated env (Ends Done) = one_answer env
negated env (Ends (Raised text)) = Ends (Raised text)
negated env (Ends TooDeep) = Ends TooDeep
negated env (Tick rest) = Tick (negated env rest)
negated env (Answer answer rest) = Ends Done
negated env (Meets what forked next) = Meets what forked (λ reply. negated env (next reply))

-- the course of a conjunct that is forked: it has ended well at its first answer
abbrev pub closed : GoalCourse → GoalCourse
closed (Ends end) = Ends end
closed (Tick rest) = Tick (closed rest)
closed (Answer env rest) = Ends Done
closed (Meets what forked next) = Meets what forked (λ reply. closed (next reply))

-- the steps that are left behind a reply: those of conjuncts that joined are made
abbrev pub left_after : ℕ → Reply → ℕ
left_after left (Given value) = left
left_after left Passed = left
left_after left (Joined steps) = left - steps

-- The course up to its first `limit` steps, ended where one step more would come. A conjunct may make as many steps as are left where it is forked.
abbrev mutual
  pub cut : ℕ → GoalCourse → RunCourse
  cut limit (Ends Done) = Ends RunDone
  cut limit (Ends (Raised text)) = Ends (RunRaised text)
  cut limit (Ends TooDeep) = Ends LimitPassed
  cut zero (Tick rest) = Ends LimitPassed
  cut (suc limit) (Tick rest) = Tick (cut limit rest)
  cut limit (Answer env rest) = Answer env (cut limit rest)
  cut limit (Meets what forked next) = Meets what (cut_all limit forked) (λ reply. cut (left_after limit reply) (next reply))

  pub cut_all : ℕ → Courses End → Courses RunEnd
  cut_all limit no_courses = no_courses
  cut_all limit (more_courses first rest) = more_courses (cut limit first) (cut_all limit rest)
