-- Worked examples of runs that courses show along scripts.
use Rattle.std.specs.Prelude.{◌≡◌, ℕ, suc, zero, pos, ◌-◌, ◌==◌, ◌||◌, if◌then◌else◌, List, [], ◌∷◌, Option, Some, None, refl}
use Rattle.merc_value.specs.Value.{Value, Int}
use Rattle.merc_meaning.specs.Trace.{Env, Run, RunDone, RunRaised, LimitPassed, Ends as RunEnds, Tick as RunTick, Answer as RunAnswer}
use Rattle.merc_script.specs.declared.outcome.Outcome.TheVariants.{Ok as Fine, Raise, Limit, Starved}
use Rattle.merc_script.specs.Script.{Script, Ends, TickThen, WaitThen, SignalThen, ForkThen, Children, NoChild, Child}
use Rattle.merc_course.specs.Course.{RunCourse, Ends as CourseEnds, Tick, Answer, Meets, AtWait, AtSignal, AtFork, Joined, no_courses}
use Rattle.merc_course.specs.Courses.{given_by, course}
use Rattle.merc_course.specs.Shown.{shown}
use Rattle.merc_plan.specs.PlaysExamples.{both, program}
use Rattle.merc_carried.specs.Runs.{behind_steps}
use Rattle.merc_shown_laws.specs.Shows.{Shows, done, raised, limited, ticks, answers, waits, starves, hands, goes_on, ends_there}

abbrev one : Value
one = Int (pos 1)

abbrev two : Value
two = Int (pos 2)

-- the cells 5 and 6 have a value, and others have none
abbrev values : ℕ → Option Value
values cell = if (cell == 5) || (cell == 6) then Some one else None

abbrev found : Value → Env
found value = Some value ∷ []

abbrev answer : Env → Run
answer env = RunAnswer env (RunEnds RunDone)

-- `X = 1 & Y = X`, of which Y is asked: the conjuncts make no step, and Y is the value that the second gives.

abbrev both_script : Script
both_script =
    ForkThen 3 (record { cell = 5; producer = 1; consumer = 2; value = Some one } ∷ record { cell = 6; producer = 2; consumer = 0; value = Some one } ∷ []) []
    (Child (SignalThen 5 (Ends (Fine 0))) (Child (WaitThen 5 (SignalThen 6 (Ends (Fine 0)))) NoChild)) (WaitThen 6 (Ends (Fine 0)))

both-shows : Shows values 3 (answer (found one)) (shown (1 ∷ []) (course program both 3)) both_script
both-shows = goes_on 3 0 _ (answer (found one)) 0 _ _ _ _ _ _ refl refl (waits 3 _ 1 6 one _ _ _ refl (answers 3 _ _ _ _ (done 3 0)))

-- Ends.

done-shows : Shows values 2 (RunEnds RunDone) (CourseEnds RunDone) (Ends (Fine 3))
done-shows = done 2 3

done-not : Shows values 2 (RunEnds LimitPassed) (CourseEnds RunDone) (Ends (Fine 3)) → ⊥
done-not shows = elim shows [ ]

raised-shows : Shows values 2 (RunEnds (RunRaised 7)) (CourseEnds (RunRaised 7)) (Ends (Raise 7 3))
raised-shows = raised 2 3 7

-- with another text
raised-not : Shows values 2 (RunEnds (RunRaised 8)) (CourseEnds (RunRaised 7)) (Ends (Raise 7 3)) → ⊥
raised-not shows = elim shows [ ]

limited-shows : Shows values 0 (RunEnds LimitPassed) (CourseEnds LimitPassed) (Ends Limit)
limited-shows = limited 0

limited-not : Shows values 0 (RunEnds RunDone) (CourseEnds LimitPassed) (Ends Limit) → ⊥
limited-not shows = elim shows [ ]

-- Steps and answers.

ticks-shows : Shows values 1 (RunTick (RunEnds RunDone)) (Tick (CourseEnds RunDone)) (TickThen (Ends (Fine 1)))
ticks-shows = ticks 0 _ _ _ (done 0 1)

-- no step is left
ticks-not : Shows values 0 (RunTick (RunEnds RunDone)) (Tick (CourseEnds RunDone)) (TickThen (Ends (Fine 1))) → ⊥
ticks-not shows = elim shows [ ]

-- the run has no step
ticks-not-made : Shows values 1 (RunEnds RunDone) (Tick (CourseEnds RunDone)) (TickThen (Ends (Fine 1))) → ⊥
ticks-not-made shows = elim shows [ ]

answers-shows : Shows values 0 (answer (found one)) (Answer (found one) (CourseEnds RunDone)) (Ends (Fine 0))
answers-shows = answers 0 _ _ _ _ (done 0 0)

-- another value
answers-not : Shows values 0 (answer (found two)) (Answer (found one) (CourseEnds RunDone)) (Ends (Fine 0)) → ⊥
answers-not shows = elim shows [ ]

-- A wait for a value, which is then an answer.

abbrev asks : RunCourse
asks = Meets (AtWait 0) no_courses (λ reply. Answer (given_by reply ∷ []) (CourseEnds RunDone))

waits-shows : Shows values 0 (answer (found one)) asks (WaitThen 5 (Ends (Fine 0)))
waits-shows = waits 0 _ 0 5 one _ _ _ refl answers-shows

-- not with another value than the cell's
waits-not : Shows values 0 (answer (found two)) asks (WaitThen 5 (Ends (Fine 0))) → ⊥
waits-not (waits _ _ _ _ value _ _ _ has behind) = other value has behind where
  other : (value : Value) → values 5 ≡ Some value → Shows values 0 (answer (found two)) (Answer (found value) (CourseEnds RunDone)) (Ends (Fine 0)) → ⊥
  other value has (answers _ _ _ _ _ behind) = cc

-- nobody gives a value, and nothing is said of the run
starves-shows : Shows values 0 (answer (found two)) asks (WaitThen 7 (Ends Starved))
starves-shows = starves 0 _ 0 7 _ _ refl

-- the cell has a value
starves-not : Shows values 0 (answer (found two)) asks (WaitThen 5 (Ends Starved)) → ⊥
starves-not (waits _ _ _ _ _ _ _ _ _ (answers _ _ _ _ _ behind)) = elim behind [ ]
starves-not (starves _ _ _ _ _ _ none) = cc

-- A signal.

abbrev signals : Value → RunCourse
signals value = Meets (AtSignal 0 value) no_courses (λ reply. CourseEnds RunDone)

hands-shows : Shows values 0 (RunEnds RunDone) (signals one) (SignalThen 5 (Ends (Fine 0)))
hands-shows = hands 0 _ 0 5 one _ _ _ refl (done 0 0)

-- of another value than the cell's
hands-not : Shows values 0 (RunEnds RunDone) (signals two) (SignalThen 5 (Ends (Fine 0))) → ⊥
hands-not (hands _ _ _ _ _ _ _ _ has _) = cc

-- Forks, of a course that tells by its last step how many are left behind the fork.

abbrev forks : RunCourse
forks = Meets (AtFork 0) no_courses (λ reply. Tick (CourseEnds RunDone))

-- two conjuncts of one step each
abbrev stepping : Children
stepping = Child (TickThen (Ends (Fine 1))) (Child (TickThen (Ends (Fine 1))) NoChild)

goes_on-shows : Shows values 3 (RunTick (RunTick (RunTick (RunEnds RunDone)))) forks (ForkThen 3 [] [] stepping (TickThen (Ends (Fine 3))))
goes_on-shows = goes_on 3 2 _ (RunTick (RunEnds RunDone)) 0 _ _ _ _ _ _ refl refl (ticks 0 _ _ _ (done 0 3))

-- the conjuncts' steps are not in the run
goes_on-not : Shows values 3 (RunTick (RunEnds RunDone)) forks (ForkThen 3 [] [] stepping (TickThen (Ends (Fine 3)))) → ⊥
goes_on-not (goes_on _ steps _ behind _ _ _ _ _ _ _ joins run_is _) = other steps behind joins run_is where
  other : (steps : ℕ) (behind : Run) → Fine 2 ≡ Fine steps → RunTick (RunEnds RunDone) ≡ behind_steps steps behind → ⊥
  other zero behind joins run_is = cc
  other (suc zero) behind joins run_is = cc
  other (suc (suc steps)) behind joins run_is = cc

-- One step, and then the second conjunct raises an exception.
abbrev raising : Children
raising = Child (TickThen (Ends (Fine 1))) (Child (Ends (Raise 7 0)) NoChild)

ends_there-shows : Shows values 3 (RunTick (RunEnds (RunRaised 7))) forks (ForkThen 3 [] [] raising (Ends (Raise 7 1)))
ends_there-shows = ends_there 3 _ 0 _ _ _ _ _ _ (λ steps joins. cc) refl

-- the run has no exception
ends_there-not : Shows values 3 (RunTick (RunEnds RunDone)) forks (ForkThen 3 [] [] raising (Ends (Raise 7 1))) → ⊥
ends_there-not (goes_on _ _ _ _ _ _ _ _ _ _ _ joins _ _) = cc
ends_there-not (ends_there _ _ _ _ _ _ _ _ _ _ run_is) = cc

-- they join to a good end, behind which the script goes on
ends_there-not-fine : Shows values 3 (RunTick (RunTick (RunEnds (RunRaised 7)))) forks (ForkThen 3 [] [] stepping (Ends (Raise 7 2))) → ⊥
ends_there-not-fine (goes_on _ steps _ run _ _ _ _ _ _ _ _ _ behind) = other (3 - steps) run behind where
  other : (left : ℕ) (run : Run) → Shows values left run (Tick (CourseEnds RunDone)) (Ends (Raise 7 2)) → ⊥
  other left run shows = elim shows [ ]
ends_there-not-fine (ends_there _ _ _ _ _ _ _ _ _ unfit _) = unfit 2 refl
