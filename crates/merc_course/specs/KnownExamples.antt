-- Worked examples of what is known of courses from what they are up to a limit of steps.
use Rattle.std.specs.Prelude.{◌≡◌, pos, [], ◌∷◌, refl}
use Rattle.merc_value.specs.Value.{Int}
use Rattle.merc_meaning.specs.Trace.{Raised, TooDeep}
use Rattle.merc_course.specs.Course.{Given, Ends, Tick, Answer, no_courses, more_courses, replied, cut, cut_all}
use Rattle.merc_course.specs.Known.{known, all_known}
use Rattle.merc_course.specs.CourseExamples.{one, done, step, waits}

known-example : known (cut 1 (step (step done))) ≡ Tick (Answer one (Ends TooDeep))
known-example = refl

known-raised : known (cut 1 (step (Ends (Raised 7)))) ≡ step (Ends (Raised 7))
known-raised = refl

known-given : replied (Given (Int (pos 7)) ∷ []) (known (cut 1 waits)) ≡ Tick (Ends TooDeep)
known-given = refl

all_known-example : all_known (cut_all 1 (more_courses (Tick (Tick done)) (more_courses (Tick done) no_courses))) ≡ more_courses (Tick (Ends TooDeep)) (more_courses (Tick done) no_courses)
all_known-example = refl

all_known-not : all_known (cut_all 1 (more_courses (Tick (Tick done)) no_courses)) ≡ more_courses (Tick (Tick done)) no_courses → ⊥
all_known-not forgets_nothing = cc

known-not : known (cut 1 (step (step done))) ≡ step (step done) → ⊥
known-not forgets_nothing = cc
