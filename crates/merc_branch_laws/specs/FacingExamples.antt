-- Worked examples of what one step gives, at small scripts whose cell 5 has the value 1.
use Rattle.std.specs.Prelude.{◌≡◌, ℕ, pos, zero, suc, List, [], ◌∷◌, Option, Some, None, refl}
use Rattle.std.proofs.Common.{arith}
use Rattle.merc_value.specs.Value.{Value, Int}
use Rattle.merc_meaning.specs.Trace.{RunEnd, RunDone, RunRaised, LimitPassed}
use Rattle.merc_script.specs.declared.outcome.Outcome.TheVariants.{Ok as Fine, Raise}
use Rattle.merc_script.specs.Script.{Ends, TickThen, WaitThen, SignalThen, ForkThen, NoChild, Child}
use Rattle.merc_course.specs.Course.{RunCourse, Courses, Ends as CourseEnds, no_courses, more_courses}
use Rattle.merc_rights.specs.declared.sites.SiteInfo.{SiteInfo}
use Rattle.merc_board.specs.Rights.{Rights, no_rights}
use Rattle.merc_branch_laws.specs.Dealing.{done, raised, deal_none, deal_more}
use Rattle.merc_branch_laws.specs.Facing.{IsEnd, course_at, FacesTick, FacesWait, FacesSignal, FacesFork}

IsEnd-example : IsEnd 2 (RunRaised 8) (Raise 8 2)
IsEnd-example = refl

IsEnd-not : IsEnd 2 RunDone (Fine 1) → ⊥
IsEnd-not one_step = cc

abbrev ended : RunCourse
ended = CourseEnds RunDone

abbrev passed : RunCourse
passed = CourseEnds LimitPassed

course_at-example : course_at 1 (more_courses ended (more_courses passed no_courses)) ≡ Some passed
course_at-example = refl

course_at-not : course_at 2 (more_courses ended (more_courses passed no_courses)) ≡ Some ended → ⊥
course_at-not past_the_last = cc

-- a site of two conjuncts that has no cells
abbrev info : SiteInfo
info = record { children = 2; cells = []; moves = [] }

abbrev sites : List SiteInfo
sites = info ∷ []

abbrev one : Value
one = Int (pos 1)

abbrev values : ℕ → Option Value
values zero = None
values (suc cell) = Some one

tick-example : FacesTick sites values no_rights 3 4 ended (TickThen (Ends (Fine 5)))
tick-example = record { less = 2; rest = Ends (Fine 5); one_left = refl; is = refl; behind = done no_rights 2 5 }

-- no step is left
tick-not : FacesTick sites values no_rights 0 4 ended (TickThen (Ends (Fine 5))) → ⊥
tick-not faces = absurd (let left = faces.one_left in cc (left))

abbrev waiting : Rights
waiting = record { waits = record { variable = 7; cell = 5 } ∷ []; signals = [] }

wait-example : FacesWait sites values waiting 3 2 7 (λ reply. ended) (WaitThen 5 (Ends (Fine 2)))
wait-example = record {
  cell = 5;
  others = [];
  rest = Ends (Fine 2);
  is = refl;
  found = refl;
  given = λ value is. done no_rights 3 2;
  starved = λ none. absurd (cc (none));
}

-- there is no right to wait for another variable
wait-not : FacesWait sites values waiting 3 2 6 (λ reply. ended) (WaitThen 5 (Ends (Fine 2))) → ⊥
wait-not faces = absurd (let found = faces.found in cc (found))

abbrev signalling : Rights
signalling = record { waits = []; signals = record { variable = 7; consumer = 2; cell = 5 } ∷ [] }

signal-example : FacesSignal sites values signalling 3 2 7 one (λ reply. ended) (SignalThen 5 (Ends (Fine 2)))
signal-example = record { owed = record { variable = 7; consumer = 2; cell = 5 }; others = []; rest = Ends (Fine 2); is = refl; found = refl; handed = refl; behind = done no_rights 3 2 }

signal-not : FacesSignal sites values signalling 3 2 6 one (λ reply. ended) (SignalThen 5 (Ends (Fine 2))) → ⊥
signal-not faces = absurd (let found = faces.found in cc (found))

-- Two conjuncts, the second of which raises: the branch ends so, behind its own two steps.

abbrev both : Courses RunEnd
both = more_courses ended (more_courses (CourseEnds (RunRaised 8)) no_courses)

fork-example : FacesFork sites values no_rights 3 2 0 both (λ reply. ended) (ForkThen 3 [] [] (Child (Ends (Fine 0)) (Child (Ends (Raise 8 0)) NoChild)) (Ends (Raise 8 2)))
fork-example = record {
  cells = [];
  moves = [];
  children = Child (Ends (Fine 0)) (Child (Ends (Raise 8 0)) NoChild);
  rest = Ends (Raise 8 2);
  is = refl;
  info = info;
  planned = refl;
  fork = record { are_cells = record { producers = refl; consumers = refl }; same_count = refl; some = omega arith; few = omega arith };
  are_moves = refl;
  dealt = deal_more _ _ _ _ _ _ _ _ _ (done _ _ _) (deal_more _ _ _ _ _ _ _ _ _ (raised _ _ _ _) (deal_none _ _ _ _ _));
  joins = λ steps fine. absurd (cc (fine));
  fails = λ none. refl;
}

-- with as many steps as are left, and no fewer
fork-not : FacesFork sites values no_rights 3 2 0 both (λ reply. ended) (ForkThen 2 [] [] (Child (Ends (Fine 0)) (Child (Ends (Raise 8 0)) NoChild)) (Ends (Raise 8 2))) → ⊥
fork-not faces = absurd (let is = faces.is in cc (is))
