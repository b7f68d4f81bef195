-- Facts on traces.
use Rattle.std.proofs.Common.{◌≡◌, ◌⊎◌, inl, inr, Bool, true, false, refl, ap, subst}
use Rattle.merc_meaning.specs.Trace.{Env, Trace, Ends, Tick, Answer, Done, Raised, TooDeep, after, each, taken_back, first_alone, choose, negated, one_answer}
use Rattle.merc_meaning.specs.Runs.{once_if}
use Rattle.merc_program_laws.specs.Answers.{Each, Has, Never, Any, IsDone, Single}

pub each_map : (P Q : Env → Type 0) (t : Trace) → ((env : Env) → P env → Q env) → Each P t → Each Q t
each_map P Q (Ends e) f h = tt
each_map P Q (Tick t) f h = each_map P Q t f h
each_map P Q (Answer env t) f h = (f env h.0, each_map P Q t f h.1)

pub has_map : (P Q : Env → Type 0) (t : Trace) → ((env : Env) → P env → Q env) → Has P t → Has Q t
has_map P Q (Ends e) f h = absurd h
has_map P Q (Tick t) f h = has_map P Q t f h
has_map P Q (Answer env t) f (inl h) = inl (f env h)
has_map P Q (Answer env t) f (inr h) = inr (has_map P Q t f h)

-- an answer that is so is among those that are each so
pub has_each : (P Q : Env → Type 0) (t : Trace) → Each P t → Has Q t → Has (λ env. P env × Q env) t
has_each P Q (Ends e) h k = absurd k
has_each P Q (Tick t) h k = has_each P Q t h k
has_each P Q (Answer env t) h (inl k) = inl (h.0, k)
has_each P Q (Answer env t) h (inr k) = inr (has_each P Q t h.1 k)

pub never_has : (P : Env → Type 0) (t : Trace) → Each Never t → Has P t → ⊥
never_has P (Ends e) h k = k
never_has P (Tick t) h k = never_has P t h k
never_has P (Answer env t) h k = absurd h.0

pub never_each : (P : Env → Type 0) (t : Trace) → Each Never t → Each P t
never_each P t h = each_map Never P t (λ env h. absurd h) h

pub each_after : (P : Env → Type 0) (t u : Trace) → Each P t → Each P u → Each P (after t u)
each_after P (Ends Done) u h k = k
each_after P (Ends (Raised x)) u h k = tt
each_after P (Ends TooDeep) u h k = tt
each_after P (Tick t) u h k = each_after P t u h k
each_after P (Answer env t) u h k = (h.0, each_after P t u h.1 k)

-- where the first has no answer and is not done, the second does not matter
pub each_after_done : (P : Env → Type 0) (t u : Trace) → Each P t → (IsDone t → Each P u) → Each P (after t u)
each_after_done P (Ends Done) u h k = k tt
each_after_done P (Ends (Raised x)) u h k = tt
each_after_done P (Ends TooDeep) u h k = tt
each_after_done P (Tick t) u h k = each_after_done P t u h k
each_after_done P (Answer env t) u h k = (h.0, each_after_done P t u h.1 k)

pub each_each : (P Q : Env → Type 0) (f : Env → Trace) (t : Trace) → Each P t → ((env : Env) → P env → Each Q (f env)) → Each Q (each f t)
each_each P Q f (Ends e) h k = tt
each_each P Q f (Tick t) h k = each_each P Q f t h k
each_each P Q f (Answer env t) h k = each_after Q (f env) (each f t) (k env h.0) (each_each P Q f t h.1 k)

pub done_after : (t u : Trace) → IsDone (after t u) → IsDone t × IsDone u
done_after (Ends Done) u h = (tt, h)
done_after (Ends (Raised x)) u h = absurd h
done_after (Ends TooDeep) u h = absurd h
done_after (Tick t) u h = done_after t u h
done_after (Answer env t) u h = done_after t u h

pub has_left : (P : Env → Type 0) (t u : Trace) → Has P t → Has P (after t u)
has_left P (Ends e) u h = absurd h
has_left P (Tick t) u h = has_left P t u h
has_left P (Answer env t) u (inl h) = inl h
has_left P (Answer env t) u (inr h) = inr (has_left P t u h)

pub has_right : (P : Env → Type 0) (t u : Trace) → IsDone t → Has P u → Has P (after t u)
has_right P (Ends Done) u d h = h
has_right P (Ends (Raised x)) u d h = absurd d
has_right P (Ends TooDeep) u d h = absurd d
has_right P (Tick t) u d h = has_right P t u d h
has_right P (Answer env t) u d h = inr (has_right P t u d h)

pub done_each : (f : Env → Trace) (t : Trace) → IsDone (each f t) → IsDone t
done_each f (Ends e) h = h
done_each f (Tick t) h = done_each f t h
done_each f (Answer env t) h = done_each f t (done_after (f env) (each f t) h).1

has_after : {X : Type 0} (Q : Env → Type 0) (t u : Trace) → X ⊎ Has Q t → X ⊎ Has Q (after t u)
has_after Q t u (inl x) = inl x
has_after Q t u (inr h) = inr (has_left Q t u h)

has_behind : {X : Type 0} (Q : Env → Type 0) (t u : Trace) → IsDone t → X ⊎ Has Q u → X ⊎ Has Q (after t u)
has_behind Q t u d (inl x) = inl x
has_behind Q t u d (inr h) = inr (has_right Q t u d h)

-- where an answer is so, what goes on from it gives X or an answer
pub some_each : {X : Type 0} (P Q : Env → Type 0) (f : Env → Trace) (t : Trace) → IsDone (each f t) → Has P t
    → ((env : Env) → P env → IsDone (f env) → X ⊎ Has Q (f env)) → X ⊎ Has Q (each f t)
some_each P Q f (Ends e) d h k = absurd h
some_each P Q f (Tick t) d h k = some_each P Q f t d h k
some_each P Q f (Answer env t) d (inl h) k = has_after Q (f env) (each f t) (k env h (done_after (f env) (each f t) d).0)
some_each P Q f (Answer env t) d (inr h) k =
    has_behind Q (f env) (each f t) (done_after (f env) (each f t) d).0 (some_each P Q f t (done_after (f env) (each f t) d).1 h k)

pub each_taken : (P Q : Env → Type 0) (f : Env → Env) (t : Trace) → ((env : Env) → P env → Q (f env)) → Each P t → Each Q (taken_back f t)
each_taken P Q f (Ends e) k h = tt
each_taken P Q f (Tick t) k h = each_taken P Q f t k h
each_taken P Q f (Answer env t) k h = (k env h.0, each_taken P Q f t k h.1)

pub has_taken : (P Q : Env → Type 0) (f : Env → Env) (t : Trace) → ((env : Env) → P env → Q (f env)) → Has P t → Has Q (taken_back f t)
has_taken P Q f (Ends e) k h = absurd h
has_taken P Q f (Tick t) k h = has_taken P Q f t k h
has_taken P Q f (Answer env t) k (inl h) = inl (k env h)
has_taken P Q f (Answer env t) k (inr h) = inr (has_taken P Q f t k h)

pub done_taken : (f : Env → Env) (t : Trace) → IsDone (taken_back f t) → IsDone t
done_taken f (Ends e) h = h
done_taken f (Tick t) h = done_taken f t h
done_taken f (Answer env t) h = done_taken f t h

-- either there is an answer or there is none
pub answers : (t : Trace) → Has Any t ⊎ Each Never t
answers (Ends e) = inr tt
answers (Tick t) = answers t
answers (Answer env t) = inl (inl tt)

pub choose_answered : (f : Env → Trace) (u t : Trace) → Has Any t → choose f u t ≡ each f t
choose_answered f u (Ends e) h = absurd h
choose_answered f u (Tick t) h = ap Tick (choose_answered f u t h)
choose_answered f u (Answer env t) h = refl

pub choose_unanswered : (f : Env → Trace) (u t : Trace) → Each Never t → choose f u t ≡ after t u
choose_unanswered f u (Ends Done) h = refl
choose_unanswered f u (Ends (Raised x)) h = refl
choose_unanswered f u (Ends TooDeep) h = refl
choose_unanswered f u (Tick t) h = ap Tick (choose_unanswered f u t h)
choose_unanswered f u (Answer env t) h = absurd h.0

pub negated_answered : (env : Env) (t : Trace) → Has Any t → Each Never (negated env t)
negated_answered env (Ends e) h = absurd h
negated_answered env (Tick t) h = negated_answered env t h
negated_answered env (Answer env' t) h = tt

pub negated_unanswered : (env : Env) (t : Trace) → Each Never t → negated env t ≡ after t (one_answer env)
negated_unanswered env (Ends Done) h = refl
negated_unanswered env (Ends (Raised x)) h = refl
negated_unanswered env (Ends TooDeep) h = refl
negated_unanswered env (Tick t) h = ap Tick (negated_unanswered env t h)
negated_unanswered env (Answer env' t) h = absurd h.0

pub each_first : (P : Env → Type 0) (t : Trace) → Each P t → Each P (first_alone t)
each_first P (Ends e) h = tt
each_first P (Tick t) h = each_first P t h
each_first P (Answer env t) h = (h.0, tt)

pub has_first : (t : Trace) → Has Any t → Has Any (first_alone t)
has_first (Ends e) h = absurd h
has_first (Tick t) h = has_first t h
has_first (Answer env t) h = inl tt

pub first_unanswered : (t : Trace) → Each Never t → first_alone t ≡ t
first_unanswered (Ends e) h = refl
first_unanswered (Tick t) h = ap Tick (first_unanswered t h)
first_unanswered (Answer env t) h = absurd h.0

pub single_first : (t : Trace) → Single (first_alone t)
single_first (Ends e) = tt
single_first (Tick t) = single_first t
single_first (Answer env t) = refl

some_first : (t : Trace) → (IsDone t → Has Any t) → IsDone (first_alone t) → Has Any (first_alone t)
some_first t h d = elim (answers t) as (λ _. Has Any (first_alone t)) [
  | inl a ↦ has_first t a
  | inr a ↦ absurd (never_has Any t a (h (subst (λ (u : Trace). IsDone u) (first_unanswered t a) d)))
]

pub each_once : (P : Env → Type 0) (b : Bool) (t : Trace) → Each P t → Each P (once_if b t)
each_once P true t h = each_first P t h
each_once P false t h = h

pub some_once : (b : Bool) (t : Trace) → (IsDone t → Has Any t) → IsDone (once_if b t) → Has Any (once_if b t)
some_once true t h d = some_first t h d
some_once false t h d = h d
