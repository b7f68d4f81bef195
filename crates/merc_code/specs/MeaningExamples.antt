-- Worked examples of the courses of code.
use Rattle.std.specs.Prelude.{◌≡◌, ℕ, zero, suc, pos, List, [], ◌∷◌, Some, refl}
use Rattle.merc_value.specs.Value.{Int}
use Rattle.merc_meaning.specs.Trace.{RunDone, LimitPassed}
use Rattle.merc_course.specs.Course.{AtWait, AtSignal, AtFork, Reply, Joined, RunCourse, Ends, Tick, Answer as AnswerOf, Meets, no_courses, more_courses, left_after}
use Rattle.merc_course.specs.Courses.{given_by}
use Rattle.merc_code.specs.declared.instruction.Instruction.TheVariants.{Integer, Try, Call, Return, Answer, Fork, Wait, Signal, Close}
use Rattle.merc_code.specs.Steps.{Code, ConjunctCode, Codes, Caller, caller, GoesOn, State, At}
use Rattle.merc_code.specs.Meaning.{Yields, stops, moves, ticks, answers, asks, yield_none, yield_more, Goes, stays, start}
use Rattle.merc_code.specs.StepsExamples.{int, procedure, no_codes, site}

-- The code answers with 1 and, once it comes back to its choice point, with 2.

abbrev one_or_two : Code
one_or_two = Try 2 ∷ Integer 0 (pos 1) ∷ Answer (0 ∷ []) ∷ Integer 0 (pos 2) ∷ Answer (0 ∷ []) ∷ []

abbrev answer_of : ℕ → RunCourse → RunCourse
answer_of number rest = AnswerOf (int number ∷ []) rest

two_answers : Yields no_codes (start one_or_two 0) (answer_of 1 (answer_of 2 (Ends RunDone)))
two_answers = moves _ _ _ refl (moves _ _ _ refl (answers _ _ _ _ refl (moves _ _ _ refl (moves _ _ _ refl (answers _ _ _ _ refl (stops _ _ refl))))))

-- A procedure that calls itself passes each limit of steps.

abbrev calling : Codes
calling = record { procedures = λ procedure. Some (record { places = []; code = Call procedure [] ∷ Return ∷ [] }); conjuncts = λ site. [] }

abbrev loop : Code
loop = Call (procedure 0) [] ∷ Answer [] ∷ []

limit_passed : Yields calling (start loop 2) (Tick (Tick (Ends LimitPassed)))
limit_passed = ticks _ _ _ refl (ticks _ _ _ refl (stops _ _ refl))

limit_passed-at_once : Yields calling (start loop 0) (Ends LimitPassed)
limit_passed-at_once = stops _ _ refl

limit_passed-not : Yields calling (start loop 1) (Ends LimitPassed) → ⊥
limit_passed-not (stops _ end e) = absurd cc
limit_passed-not (moves _ next course e later) = absurd cc

-- A piece of the first run, up to the first answer, and one of the second with one step.

abbrev answering : Code
answering = Answer (0 ∷ []) ∷ Integer 0 (pos 2) ∷ Answer (0 ∷ []) ∷ []

first_piece : Goes no_codes 0 (start one_or_two 0) (At answering (int 1 ∷ []) [] [] (GoesOn (Integer 0 (pos 2) ∷ Answer (0 ∷ []) ∷ []) [] [] [] ∷ []) 0)
first_piece = moves _ _ _ _ refl (moves _ _ _ _ refl (stays _))

abbrev inside : State
inside = At (Call (procedure 0) [] ∷ Return ∷ []) [] [] (caller (Answer [] ∷ []) [] [] [] [] ∷ []) [] 1

one_step : Goes calling 1 (start loop 2) inside
one_step = ticks _ _ _ _ refl (stays _)

one_step-not : Goes calling 0 (start loop 2) inside → ⊥
one_step-not (moves _ _ next _ e later) = absurd cc

-- Two conjuncts are forked: the first calls and signals, the second waits. Behind them the value of another variable is waited for and shown.

abbrev sends : ConjunctCode
sends = record { used = 0 ∷ []; code = Call (procedure 0) [] ∷ Integer 0 (pos 1) ∷ Signal 0 ∷ Close ∷ [] }

abbrev receives : ConjunctCode
receives = record { used = 0 ∷ []; code = Wait 0 ∷ Close ∷ [] }

abbrev side_by_side : Codes
side_by_side = record { procedures = λ procedure. Some (record { places = []; code = Return ∷ [] }); conjuncts = λ site. sends ∷ receives ∷ [] }

abbrev forks : Code
forks = Fork (site 7) ∷ Wait 1 ∷ Answer (1 ∷ []) ∷ []

abbrev sends_course : RunCourse
sends_course = Tick (Meets (AtSignal 0 (Int (pos 1))) no_courses (λ reply. Ends RunDone))

abbrev receives_course : RunCourse
receives_course = Meets (AtWait 0) no_courses (λ reply. Ends RunDone)

abbrev shows : Reply → RunCourse
shows reply = Meets (AtWait 1) no_courses (λ given. AnswerOf (given_by given ∷ []) (Ends RunDone))

forks-example : Yields side_by_side (start forks 2) (Meets (AtFork 7) (more_courses sends_course (more_courses receives_course no_courses)) shows)
forks-example =
    asks _ _ _ _ _ _ refl
    (yield_more _ _ _ _ (ticks _ _ _ refl (moves _ _ _ refl (moves _ _ _ refl (asks _ _ _ _ _ _ refl yield_none (λ reply. stops _ _ refl)))))
    (yield_more _ _ _ _ (asks _ _ _ _ _ _ refl yield_none (λ reply. stops _ _ refl)) yield_none))
    (λ reply. asks _ _ _ _ _ _ refl yield_none (λ given. answers _ _ _ _ refl (stops _ _ refl)))

-- a conjunct may make as many steps as are left where it is forked
forks-limit : Yields side_by_side (start forks 0) (Meets (AtFork 7) (more_courses (Ends LimitPassed) (more_courses receives_course no_courses)) shows)
forks-limit =
    asks _ _ _ _ _ _ refl (yield_more _ _ _ _ (stops _ _ refl) (yield_more _ _ _ _ (asks _ _ _ _ _ _ refl yield_none (λ reply. stops _ _ refl)) yield_none))
    (λ reply. asks _ _ _ _ _ _ refl yield_none (λ given. answers _ _ _ _ refl (stops _ _ refl)))

-- Where conjuncts joined, their steps are made: so many that are left may be made behind them.

abbrev forks_and_calls : Code
forks_and_calls = Fork (site 7) ∷ loop

abbrev steps_of : ℕ → RunCourse
steps_of zero = Ends LimitPassed
steps_of (suc left) = Tick (steps_of left)

calls_on : (left : ℕ) (rest : Code) (callers : List Caller) → Yields calling (At (Call (procedure 0) [] ∷ rest) [] [] callers [] left) (steps_of left)
calls_on zero rest callers = stops _ _ refl
calls_on (suc left) rest callers = ticks _ _ _ refl (calls_on left (Return ∷ []) (caller rest [] [] [] [] ∷ callers))

joined-example : Yields calling (start forks_and_calls 3) (Meets (AtFork 7) no_courses (λ reply. steps_of (left_after 3 reply)))
joined-example = asks _ _ _ _ _ _ refl yield_none (λ reply. calls_on (left_after 3 reply) (Answer [] ∷ []) [])

joined-two : steps_of (left_after 3 (Joined 2)) ≡ Tick (Ends LimitPassed)
joined-two = refl

joined-not : steps_of (left_after 3 (Joined 2)) ≡ steps_of 3 → ⊥
joined-not forgets_the_steps = cc
