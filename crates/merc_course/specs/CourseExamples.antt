-- Worked examples of courses, and of what is made of them.
use Rattle.std.specs.Prelude.{◌≡◌, ℕ, pos, [], ◌∷◌, Option, Some, refl}
use Rattle.merc_value.specs.Value.{Value, Int}
use Rattle.merc_meaning.specs.Trace.{Env, Ends as EventEnds, Tick as EventTick, Answer as EventAnswer, Done, Raised, TooDeep, RunDone, RunRaised, LimitPassed}
use Rattle.merc_course.specs.Course.{AtWait, AtSignal, AtFork, Reply, Given, Passed, Joined, Ends, Tick, Answer, Meets, no_courses, more_courses, GoalCourse, whole, replied, one_answer, after, each, taken_back, first_alone, choose, negated, closed, left_after, cut, cut_all}

abbrev pub int : ℕ → Option Value
int number = Some (Int (pos number))

abbrev pub one : Env
one = int 1 ∷ []

abbrev pub two : Env
two = int 2 ∷ []

abbrev pub done : GoalCourse
done = Ends Done

-- a step and an answer, and then this
abbrev pub step : GoalCourse → GoalCourse
step rest = Tick (Answer one rest)

-- a course that goes on in another way at each reply
abbrev by_reply : Reply → GoalCourse
by_reply (Given value) = one_answer (Some value ∷ [])
by_reply Passed = step done
by_reply (Joined steps) = Ends (Raised steps)

abbrev meeting : GoalCourse
meeting = Meets (AtWait 0) no_courses by_reply

replied-given : replied (Given (Int (pos 7)) ∷ []) meeting ≡ one_answer (int 7 ∷ [])
replied-given = refl

replied-passed : replied (Passed ∷ []) meeting ≡ step done
replied-passed = refl

replied-joined : replied (Joined 5 ∷ []) meeting ≡ Ends (Raised 5)
replied-joined = refl

replied-none : replied [] (step meeting) ≡ step meeting
replied-none = refl

-- one at each meeting, steps and answers between them
replied-in_order : replied (Passed ∷ Joined 5 ∷ Given (Int (pos 7)) ∷ []) (Meets (AtSignal 0 (Int (pos 1))) no_courses (λ reply. step meeting)) ≡ step (Ends (Raised 5))
replied-in_order = refl

replied-not : replied (Given (Int (pos 7)) ∷ []) meeting ≡ one_answer (int 8 ∷ []) → ⊥
replied-not same = cc

-- a trace as a course

whole-example : whole (EventTick (EventAnswer one (EventEnds Done))) ≡ step done
whole-example = refl

whole-raised : whole (EventTick (EventEnds (Raised 7))) ≡ Tick (Ends (Raised 7))
whole-raised = refl

whole-not : whole (EventAnswer one (EventEnds Done)) ≡ Meets (AtWait 0) no_courses (λ reply. one_answer one) → ⊥
whole-not meets_others = cc

-- one behind the other

after-done : after (step done) (one_answer two) ≡ step (Answer two done)
after-done = refl

after-raised : after (step (Ends (Raised 7))) (one_answer two) ≡ step (Ends (Raised 7))
after-raised = refl

after-too_deep : after (step (Ends TooDeep)) (one_answer two) ≡ step (Ends TooDeep)
after-too_deep = refl

after-given : replied (Given (Int (pos 7)) ∷ []) (after meeting (one_answer two)) ≡ Answer (int 7 ∷ []) (Answer two done)
after-given = refl

after-passed : replied (Passed ∷ []) (after meeting (one_answer two)) ≡ step (Answer two done)
after-passed = refl

after-joined : replied (Joined 5 ∷ []) (after meeting (one_answer two)) ≡ Ends (Raised 5)
after-joined = refl

-- what is forked stays as it is
after-forked : after (Meets (AtFork 3) (more_courses (step done) no_courses) (λ reply. done)) (one_answer two)
    ≡ Meets (AtFork 3) (more_courses (step done) no_courses) (λ reply. one_answer two)
after-forked = refl

after-not : after (Meets (AtFork 3) (more_courses done no_courses) (λ reply. done)) (one_answer two)
    ≡ Meets (AtFork 3) (more_courses (one_answer two) no_courses) (λ reply. one_answer two) → ⊥
after-not goes_on_in_conjuncts = cc

-- each answer replaced

each-example : each (λ env. Tick (Answer env (Answer two done))) (step (step done)) ≡ Tick (Tick (Answer one (Answer two (Tick (Tick (Answer one (Answer two done)))))))
each-example = refl

each-raised : each (λ env. Ends (Raised 7)) (step (step done)) ≡ Tick (Ends (Raised 7))
each-raised = refl

each-given : replied (Given (Int (pos 7)) ∷ []) (each (λ env. Tick (one_answer env)) meeting) ≡ Tick (one_answer (int 7 ∷ []))
each-given = refl

each-passed : replied (Passed ∷ []) (each (λ env. Tick (one_answer two)) meeting) ≡ Tick (Tick (one_answer two))
each-passed = refl

each-joined : replied (Joined 5 ∷ []) (each (λ env. Tick (one_answer env)) meeting) ≡ Ends (Raised 5)
each-joined = refl

-- an answer is replaced by a meeting
each-meets : each (λ env. Meets (AtSignal 0 (Int (pos 1))) no_courses (λ reply. one_answer env)) (step (one_answer two))
    ≡ Tick (Meets (AtSignal 0 (Int (pos 1))) no_courses (λ reply. Answer one (Meets (AtSignal 0 (Int (pos 1))) no_courses (λ again. one_answer two))))
each-meets = refl

each-not : each (λ env. done) meeting ≡ done → ⊥
each-not meets_nobody = cc

-- answers changed

taken_back-example : taken_back (λ env. two) (step (step done)) ≡ Tick (Answer two (Tick (Answer two done)))
taken_back-example = refl

taken_back-raised : taken_back (λ env. two) (step (Ends (Raised 7))) ≡ Tick (Answer two (Ends (Raised 7)))
taken_back-raised = refl

taken_back-given : replied (Given (Int (pos 7)) ∷ []) (taken_back (λ env. int 1 ∷ env) meeting) ≡ one_answer (int 1 ∷ int 7 ∷ [])
taken_back-given = refl

taken_back-joined : replied (Joined 5 ∷ []) (taken_back (λ env. two) meeting) ≡ Ends (Raised 5)
taken_back-joined = refl

taken_back-passed : replied (Passed ∷ []) (taken_back (λ env. two) meeting) ≡ Tick (one_answer two)
taken_back-passed = refl

taken_back-not : replied (Passed ∷ []) (taken_back (λ env. two) meeting) ≡ step done → ⊥
taken_back-not same = cc

-- the first answer alone

first_alone-example : first_alone (step (step (Ends (Raised 7)))) ≡ step done
first_alone-example = refl

first_alone-none : first_alone (Tick (Ends (Raised 7))) ≡ Tick (Ends (Raised 7))
first_alone-none = refl

-- a meeting before the first answer stays, one behind it goes
first_alone-meets : first_alone (Meets (AtWait 0) no_courses (λ reply. Answer one meeting)) ≡ Meets (AtWait 0) no_courses (λ reply. one_answer one)
first_alone-meets = refl

first_alone-given : replied (Given (Int (pos 7)) ∷ []) (first_alone (after meeting (one_answer two))) ≡ one_answer (int 7 ∷ [])
first_alone-given = refl

first_alone-passed : replied (Passed ∷ []) (first_alone (after meeting (one_answer two))) ≡ step done
first_alone-passed = refl

first_alone-joined : replied (Joined 5 ∷ []) (first_alone (after meeting (one_answer two))) ≡ Ends (Raised 5)
first_alone-joined = refl

first_alone-not : first_alone (Answer one meeting) ≡ Answer one meeting → ⊥
first_alone-not stays = cc

-- a condition

choose-answer : choose (λ env. one_answer two) (one_answer one) (step (step done)) ≡ Tick (Answer two (Tick (Answer two done)))
choose-answer = refl

choose-none : choose (λ env. one_answer two) (one_answer one) (Tick done) ≡ step done
choose-none = refl

choose-raised : choose (λ env. one_answer two) (one_answer one) (Tick (Ends (Raised 7))) ≡ Tick (Ends (Raised 7))
choose-raised = refl

choose-too_deep : choose (λ env. one_answer two) (one_answer one) (Tick (Ends TooDeep)) ≡ Tick (Ends TooDeep)
choose-too_deep = refl

choose-given : replied (Given (Int (pos 7)) ∷ []) (choose (λ env. Tick (one_answer env)) (one_answer one) meeting) ≡ Tick (one_answer (int 7 ∷ []))
choose-given = refl

choose-passed : replied (Passed ∷ []) (choose (λ env. one_answer two) (one_answer one) meeting) ≡ Tick (one_answer two)
choose-passed = refl

-- conjuncts that joined make no answer of their own
choose-joined : choose (λ env. one_answer two) (one_answer one) (Meets (AtFork 3) (more_courses (one_answer two) no_courses) (λ reply. done))
    ≡ Meets (AtFork 3) (more_courses (one_answer two) no_courses) (λ reply. one_answer one)
choose-joined = refl

choose-joined_raised : replied (Joined 5 ∷ []) (choose (λ env. one_answer two) (one_answer one) meeting) ≡ Ends (Raised 5)
choose-joined_raised = refl

choose-not : choose (λ env. one_answer two) (one_answer one) (Tick done) ≡ Tick (one_answer two) → ⊥
choose-not same = cc

-- a negation

negated-answer : negated two (step (step (Ends (Raised 7)))) ≡ Tick done
negated-answer = refl

negated-none : negated two (Tick done) ≡ Tick (Answer two done)
negated-none = refl

negated-too_deep : negated two (Tick (Ends TooDeep)) ≡ Tick (Ends TooDeep)
negated-too_deep = refl

negated-given : replied (Given (Int (pos 7)) ∷ []) (negated two meeting) ≡ done
negated-given = refl

negated-passed : replied (Passed ∷ []) (negated two meeting) ≡ Tick done
negated-passed = refl

negated-joined : replied (Joined 5 ∷ []) (negated two meeting) ≡ Ends (Raised 5)
negated-joined = refl

negated-not : replied (Passed ∷ []) (negated two meeting) ≡ one_answer two → ⊥
negated-not drops_steps = cc

-- a conjunct

closed-example : closed (step (step (Ends (Raised 7)))) ≡ Tick done
closed-example = refl

closed-raised : closed (Tick (Ends (Raised 7))) ≡ Tick (Ends (Raised 7))
closed-raised = refl

closed-too_deep : closed (Ends TooDeep) ≡ Ends TooDeep
closed-too_deep = refl

closed-given : replied (Given (Int (pos 7)) ∷ []) (closed meeting) ≡ done
closed-given = refl

closed-passed : replied (Passed ∷ []) (closed meeting) ≡ Tick done
closed-passed = refl

closed-joined : replied (Joined 5 ∷ []) (closed meeting) ≡ Ends (Raised 5)
closed-joined = refl

closed-not : closed (Answer one (Ends (Raised 7))) ≡ Ends (Raised 7) → ⊥
closed-not goes_on = cc

-- up to a limit of steps

left_after-given : left_after 5 (Given (Int (pos 2))) ≡ 5
left_after-given = refl

left_after-passed : left_after 5 Passed ≡ 5
left_after-passed = refl

left_after-joined : left_after 5 (Joined 2) ≡ 3
left_after-joined = refl

-- no more are made than were left
left_after-all : left_after 5 (Joined 7) ≡ 0
left_after-all = refl

left_after-passed_not : left_after 5 Passed ≡ 4 → ⊥
left_after-passed_not is_a_step = cc

left_after-not : left_after 5 (Joined 2) ≡ 5 → ⊥
left_after-not counts_none = cc

cut-reached : cut 2 (step (step done)) ≡ Tick (Answer one (Tick (Answer one (Ends RunDone))))
cut-reached = refl

cut-passed : cut 1 (step (step done)) ≡ Tick (Answer one (Ends LimitPassed))
cut-passed = refl

cut-raised : cut 1 (step (Ends (Raised 7))) ≡ Tick (Answer one (Ends (RunRaised 7)))
cut-raised = refl

cut-not : cut 1 (step (step done)) ≡ Tick (Answer one (Ends RunDone)) → ⊥
cut-not ends_well = cc

-- what is too deep is behind the limit
cut-too_deep : cut 3 (step (Ends TooDeep)) ≡ Tick (Answer one (Ends LimitPassed))
cut-too_deep = refl

-- two conjuncts of two steps and of one, and two steps behind them
abbrev forks : GoalCourse
forks = Meets (AtFork 3) (more_courses (Tick (Tick done)) (more_courses (Tick done) no_courses)) (λ reply. Tick (Tick done))

abbrev pub waits : GoalCourse
waits = Meets (AtWait 0) no_courses (λ reply. Tick (Tick done))

-- a meeting is no step
cut-given : replied (Given (Int (pos 7)) ∷ []) (cut 2 waits) ≡ Tick (Tick (Ends RunDone))
cut-given = refl

cut-given_passed : replied (Given (Int (pos 7)) ∷ []) (cut 1 waits) ≡ Tick (Ends LimitPassed)
cut-given_passed = refl

cut-given_not : replied (Given (Int (pos 7)) ∷ []) (cut 2 waits) ≡ Tick (Ends LimitPassed) → ⊥
cut-given_not is_a_step = cc

-- conjuncts that joined have made their steps
cut-joined : replied (Joined 3 ∷ []) (cut 5 forks) ≡ Tick (Tick (Ends RunDone))
cut-joined = refl

cut-joined_passed : replied (Joined 3 ∷ []) (cut 4 forks) ≡ Tick (Ends LimitPassed)
cut-joined_passed = refl

cut-joined_not : replied (Joined 3 ∷ []) (cut 4 forks) ≡ Tick (Tick (Ends RunDone)) → ⊥
cut-joined_not counts_none = cc

-- each conjunct may make as many steps as are left at the fork
cut_all-example : cut_all 1 (more_courses (Tick (Tick done)) (more_courses (Tick done) no_courses)) ≡ more_courses (Tick (Ends LimitPassed)) (more_courses (Tick (Ends RunDone)) no_courses)
cut_all-example = refl

cut_all-not : cut_all 1 (more_courses (Tick done) (more_courses (Tick done) no_courses)) ≡ more_courses (Tick (Ends RunDone)) (more_courses (Ends LimitPassed) no_courses) → ⊥
cut_all-not share_the_steps = cc

cut-forked : cut 2 (Tick (Meets (AtFork 3) (more_courses (Tick (Tick done)) no_courses) (λ reply. done)))
    ≡ Tick (Meets (AtFork 3) (more_courses (Tick (Ends LimitPassed)) no_courses) (λ reply. Ends RunDone))
cut-forked = refl

cut-forked_not : cut 2 (Tick (Meets (AtFork 3) (more_courses (Tick (Tick done)) no_courses) (λ reply. done)))
    ≡ Tick (Meets (AtFork 3) (more_courses (Tick (Tick (Ends RunDone))) no_courses) (λ reply. Ends RunDone)) → ⊥
cut-forked_not counts_from_zero = cc
