-- Worked examples of where machines stand at scripts, at the script of `X = 1 & Y = X`.
use Rattle.std.specs.Prelude.{◌≡◌, ℕ, pos, true, [], ◌∷◌, Option, Some, refl}
use Rattle.merc_value.specs.Value.{Value, Int}
use Rattle.merc_meaning.specs.Trace.{RunDone, LimitPassed}
use Rattle.merc_script.specs.declared.outcome.Outcome.TheVariants.{Ok as Fine, Limit, Starved}
use Rattle.merc_script.specs.Script.{Script, Ends, TickThen, WaitThen, SignalThen, ForkThen, NoChild, Child}
use Rattle.merc_core.specs.WellFormed.{cells_of, value_in}
use Rattle.merc_course.specs.Course.{RunCourse, Ends as CourseEnds, Tick, Meets, AtWait, AtSignal, no_courses}
use Rattle.merc_course.specs.Courses.{course}
use Rattle.merc_plan.specs.BranchScript.{script, numbered, no_numbers, root_script}
use Rattle.merc_plan.specs.PlaysExamples.{one, both, plan, program, both_branch}
use Rattle.merc_plan.specs.Stands.{Stands, done, limited, ticks, answers, waits, starves, hands, goes_on, stand_none, stand_more}

-- the script of which X has this cell and Y that one
abbrev both_script : ℕ → ℕ → Script
both_script x y =
    ForkThen 3 (record { cell = x; producer = 1; consumer = 2; value = Some one } ∷ record { cell = y; producer = 2; consumer = 0; value = Some one } ∷ []) []
    (Child (SignalThen x (Ends (Fine 0))) (Child (WaitThen x (SignalThen y (Ends (Fine 0)))) NoChild)) (WaitThen y (Ends (Fine 0)))

script-example : script true 3 0 [] both_branch ≡ both_script 1 2
script-example = refl

numbered-example : numbered no_numbers 5 (both_script 1 2) ≡ both_script 5 6
numbered-example = refl

numbered-not : numbered no_numbers 5 (both_script 1 2) ≡ both_script 1 2 → ⊥
numbered-not keeps_names = cc

root-example : root_script plan program both 3 ≡ both_script 0 1
root-example = refl

-- each cell's value
abbrev values : ℕ → Option Value
values = value_in (cells_of (both_script 5 6))

values-example : values 6 ≡ Some one
values-example = refl

both-stands : Stands values (course program both 3) (both_script 5 6)
both-stands =
    goes_on 0 3 0 _ _ _ _ _ _ refl
    (stand_more _ _ _ _ (hands 0 5 one _ _ _ refl (done 0)) (stand_more _ _ _ _ (waits 0 5 one _ _ _ refl (hands 1 6 one _ _ _ refl (done 0))) stand_none))
    (waits 1 6 one _ _ _ refl (answers _ _ _ (done 0)))

-- at the end of its steps, and where nobody gives a value

abbrev waiting : RunCourse
waiting = Meets (AtWait 0) no_courses (λ reply. CourseEnds RunDone)

limited-stands : Stands values (Tick (CourseEnds LimitPassed)) (TickThen (Ends Limit))
limited-stands = ticks _ _ limited

starves-stands : Stands values waiting (WaitThen 7 (Ends Starved))
starves-stands = starves 0 7 _ _ refl

-- the cell is given a value
starves-not : Stands values waiting (WaitThen 5 (Ends Starved)) → ⊥
starves-not (waits _ _ _ _ _ _ _ behind) = elim behind [ ]
starves-not (starves _ _ _ _ none) = cc

-- another value is handed on
hands-not : Stands values (Meets (AtSignal 0 (Int (pos 2))) no_courses (λ reply. CourseEnds RunDone)) (SignalThen 5 (Ends (Fine 0))) → ⊥
hands-not (hands _ _ _ _ _ _ other _) = cc

ticks-not : Stands values (CourseEnds RunDone) (TickThen (Ends (Fine 1))) → ⊥
ticks-not stands = elim stands [ ]
