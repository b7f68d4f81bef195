-- Replies that are put into a course that was changed.
use Rattle.std.proofs.Common.{◌≡◌, refl, ap, List, [], ◌∷◌, map, ℕ}
use Rattle.merc_meaning.specs.Trace.{Env, Done, Raised, TooDeep}
use Rattle.merc_meaning.specs.Steps.{value_at}
use Rattle.merc_course.specs.Course.{Reply, GoalCourse, RunCourse, Ends, Tick, Answer, Meets, replied, taken_back, first_alone, negated, closed}
use Rattle.merc_course.specs.Shown.{shown}

pub replied-taken : (replies : List Reply) (f : Env → Env) (t : GoalCourse) → replied replies (taken_back f t) ≡ taken_back f (replied replies t)
replied-taken replies f (Ends e) = refl
replied-taken replies f (Tick t) = ap Tick (replied-taken replies f t)
replied-taken replies f (Answer env t) = ap (λ x. Answer (f env) x) (replied-taken replies f t)
replied-taken [] f (Meets what ks g) = refl
replied-taken (reply ∷ replies) f (Meets what ks g) = replied-taken replies f (g reply)

pub replied-first : (replies : List Reply) (t : GoalCourse) → replied replies (first_alone t) ≡ first_alone (replied replies t)
replied-first replies (Ends e) = refl
replied-first replies (Tick t) = ap Tick (replied-first replies t)
replied-first replies (Answer env t) = refl
replied-first [] (Meets what ks g) = refl
replied-first (reply ∷ replies) (Meets what ks g) = replied-first replies (g reply)

pub replied-negated : (replies : List Reply) (env : Env) (t : GoalCourse) → replied replies (negated env t) ≡ negated env (replied replies t)
replied-negated replies env (Ends Done) = refl
replied-negated replies env (Ends (Raised v)) = refl
replied-negated replies env (Ends TooDeep) = refl
replied-negated replies env (Tick t) = ap Tick (replied-negated replies env t)
replied-negated replies env (Answer answer t) = refl
replied-negated [] env (Meets what ks g) = refl
replied-negated (reply ∷ replies) env (Meets what ks g) = replied-negated replies env (g reply)

pub replied-closed : (replies : List Reply) (t : GoalCourse) → replied replies (closed t) ≡ closed (replied replies t)
replied-closed replies (Ends e) = refl
replied-closed replies (Tick t) = ap Tick (replied-closed replies t)
replied-closed replies (Answer env t) = refl
replied-closed [] (Meets what ks g) = refl
replied-closed (reply ∷ replies) (Meets what ks g) = replied-closed replies (g reply)

pub replied-shown : (replies : List Reply) (variables : List ℕ) (t : RunCourse) → replied replies (shown variables t) ≡ shown variables (replied replies t)
replied-shown replies variables (Ends e) = refl
replied-shown replies variables (Tick t) = ap Tick (replied-shown replies variables t)
replied-shown replies variables (Answer env t) = ap (λ x. Answer (map (value_at env) variables) x) (replied-shown replies variables t)
replied-shown [] variables (Meets what ks g) = refl
replied-shown (reply ∷ replies) variables (Meets what ks g) = replied-shown replies variables (g reply)
