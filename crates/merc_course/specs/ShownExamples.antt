-- Worked examples of what the answers of a course show.
use Rattle.std.specs.Prelude.{◌≡◌, [], ◌∷◌, None, refl}
use Rattle.merc_meaning.specs.Trace.{RunDone}
use Rattle.merc_course.specs.Course.{AtWait, AtFork, Ends, Tick, Answer, Meets, no_courses, more_courses}
use Rattle.merc_course.specs.Shown.{shown}
use Rattle.merc_course.specs.CourseExamples.{int}

shown-example : shown (1 ∷ 2 ∷ []) (Tick (Answer (int 1 ∷ int 2 ∷ []) (Ends RunDone))) ≡ Tick (Answer (int 2 ∷ None ∷ []) (Ends RunDone))
shown-example = refl

shown-meets : shown (1 ∷ []) (Meets (AtWait 0) no_courses (λ reply. Answer (int 1 ∷ int 2 ∷ []) (Ends RunDone))) ≡ Meets (AtWait 0) no_courses (λ reply. Answer (int 2 ∷ []) (Ends RunDone))
shown-meets = refl

-- what is forked stays as it is
shown-forked : shown [] (Meets (AtFork 3) (more_courses (Answer (int 1 ∷ []) (Ends RunDone)) no_courses) (λ reply. Ends RunDone))
    ≡ Meets (AtFork 3) (more_courses (Answer (int 1 ∷ []) (Ends RunDone)) no_courses) (λ reply. Ends RunDone)
shown-forked = refl

-- in the order of the variables
shown-not : shown (1 ∷ 0 ∷ []) (Answer (int 1 ∷ int 2 ∷ []) (Ends RunDone)) ≡ Answer (int 1 ∷ int 2 ∷ []) (Ends RunDone) → ⊥
shown-not same = cc
