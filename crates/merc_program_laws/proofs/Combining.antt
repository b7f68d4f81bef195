-- The category law of traces that are put together.
use Rattle.std.proofs.Common.{◌≡◌, ◌⊎◌, inl, inr, ℕ, Bool, true, false, if◌then◌else◌, List, refl, sym, ◌∙◌, subst}
use Rattle.merc_base.specs.Category.{can_fail_of, most_of}
use Rattle.merc_base.specs.declared.category.Category.{Category}
use Rattle.merc_base.specs.declared.category.Most.TheVariants.{Zero}
use Rattle.merc_grading.specs.Categories.{then_category, or_category, conditional_category, negation_category}
use Rattle.merc_grading.specs.Grading.{capped}
use Rattle.merc_meaning.specs.Trace.{Env, Trace, after, each, choose, negated, one_answer}
use Rattle.merc_meaning.specs.Runs.{once_if}
use Rattle.merc_program_laws.specs.Answers.{Each, Has, Never, Any, IsDone}
use Rattle.merc_program_laws.proofs.Traces.{each_map, has_each, never_has, never_each, each_after, each_after_done, each_each, done_after, has_left, has_right, done_each, some_each, answers, choose_answered, choose_unanswered, negated_answered, negated_unanswered, each_once, some_once}
use Rattle.merc_program_laws.proofs.Lawful.{Lawful}
use Rattle.merc_program_laws.proofs.Maxima.{capped_zero, capped_fail, then_zero, then_sure, or_zero, or_sure, decided, decided_zero, decided_sure, not_zero, not_sure}

drop_left : {A : Type 0} → ⊥ ⊎ A → A
drop_left (inl h) = absurd h
drop_left (inr a) = a

pub cut_law : (P : Env → Type 0) (outs : List ℕ) (c : Category) (b : Bool) (t : Trace) → Lawful P c t → Lawful P (capped outs c) (once_if b t)
cut_law P outs c b t law = record {
  goes = each_once P b t law.goes;
  no_answer = λ z. each_once Never b t (law.no_answer (capped_zero outs c z));
  some_answer = λ s d. some_once b t (law.some_answer (sym (capped_fail outs c) ∙ s)) d;
}

then_some : (P Q : Env → Type 0) (a b : Category) (f : Env → Trace) (t : Trace) → Lawful P a t → ((env : Env) → P env → Lawful Q b (f env)) → IsDone (each f t) → Has Any t → (most_of a ≡ Zero) ⊎ (can_fail_of b ≡ false) → Has Any (each f t)
then_some P Q a b f t first rest d there (inl z) = absurd (never_has Any t (first.no_answer z) there)
then_some P Q a b f t first rest d there (inr s) =
    drop_left (some_each {X = ⊥} (λ env. P env × Unit {0}) Any f t d (has_each P Any t first.goes there) (λ env h e. inr ((rest env h.0).some_answer s e)))

pub then_law : (P Q : Env → Type 0) (a b : Category) (f : Env → Trace) (t : Trace) → Lawful P a t → ((env : Env) → P env → Lawful Q b (f env)) → Lawful Q (then_category a b) (each f t)
then_law P Q a b f t first rest = record {
  goes = each_each P Q f t first.goes (λ env h. (rest env h).goes);
  no_answer = λ z. elim (then_zero a b z) as (λ _. Each Never (each f t)) [
    | inl p ↦ each_each Never Never f t (first.no_answer p) (λ env h. absurd h)
    | inr p ↦ each_each P Never f t first.goes (λ env h. (rest env h).no_answer p)
  ];
  some_answer = λ s d.
      let parts = then_sure a b s in
      let there : Has Any t = first.some_answer parts.0 (done_each f t d) in
      then_some P Q a b f t first rest d there parts.1;
}

pub or_law : (P : Env → Type 0) (a b : Category) (t u : Trace) → Lawful P a t → Lawful P b u → Lawful P (or_category a b) (after t u)
or_law P a b t u first rest = record {
  goes = each_after P t u first.goes rest.goes;
  no_answer = λ z. let p = or_zero a b z in each_after Never t u (first.no_answer p.0) (rest.no_answer p.1);
  some_answer = λ s d. let e = done_after t u d in
      elim (or_sure a b s) as (λ _. Has Any (after t u)) [
        | inl p ↦ has_left Any t u (first.some_answer p e.0)
        | inr p ↦ has_right Any t u e.0 (rest.some_answer p e.1)
      ];
}

-- the same trace, of which less is said
pub looser : (P Q : Env → Type 0) (c : Category) (t : Trace) → ((env : Env) → P env → Q env) → Lawful P c t → Lawful Q c t
looser P Q c t f law = record { goes = each_map P Q t f law.goes; no_answer = law.no_answer; some_answer = law.some_answer }

-- without answers anything may be said of them
pub zero_law : (P Q : Env → Type 0) (c : Category) (t : Trace) → Lawful P c t → most_of c ≡ Zero → Lawful Q c t
zero_law P Q c t law z = record { goes = never_each Q t (law.no_answer z); no_answer = law.no_answer; some_answer = law.some_answer }

-- each answer is so, and this holds besides where there may be an answer
pub goes_besides : (P : Env → Type 0) (A : Type 0) (c : Category) (t : Trace) → Lawful P c t → A ⊎ (most_of c ≡ Zero) → Each (λ env. P env × A) t
goes_besides P A c t law (inl a) = each_map P (λ env. P env × A) t (λ env p. (p, a)) law.goes
goes_besides P A c t law (inr z) = never_each (λ env. P env × A) t (law.no_answer z)

if_answered : (P Q : Env → Type 0) (a b c : Category) (f : Env → Trace) (t : Trace) (z : Bool) → z ≡ can_fail_of a → Has Any t → Lawful P a t → ((env : Env) → P env → Lawful Q b (f env))
    → Lawful Q (if z then decided a b c else then_category a b) (each f t)
if_answered P Q a b c f t false e h condition then_part = then_law P Q a b f t condition then_part
if_answered P Q a b c f t true e h condition then_part = record {
  goes = each_each P Q f t condition.goes (λ env p. (then_part env p).goes);
  no_answer = λ z. elim (decided_zero a b c z).1 as (λ _. Each Never (each f t)) [
    | inl p ↦ absurd (never_has Any t (condition.no_answer p) h)
    | inr p ↦ each_each P Never f t condition.goes (λ env q. (then_part env q).no_answer p)
  ];
  some_answer = λ s d. then_some P Q a b f t condition then_part d h (inr (decided_sure a b c s).0);
}

if_unanswered : (P Q : Env → Type 0) (a b c : Category) (t u : Trace) (z : Bool) → z ≡ can_fail_of a → Each Never t → Lawful P a t → Lawful Q c u → Lawful Q (if z then decided a b c else then_category a b) (after t u)
if_unanswered P Q a b c t u false e h condition else_part = record {
  goes = each_after_done Q t u (never_each Q t h) (λ d. absurd (never_has Any t h (condition.some_answer (sym e) d)));
  no_answer = λ z. each_after_done Never t u h (λ d. absurd (never_has Any t h (condition.some_answer (sym e) d)));
  some_answer = λ s d. absurd (never_has Any t h (condition.some_answer (sym e) (done_after t u d).0));
}
if_unanswered P Q a b c t u true e h condition else_part = record {
  goes = each_after Q t u (never_each Q t h) else_part.goes;
  no_answer = λ z. each_after Never t u h (else_part.no_answer (decided_zero a b c z).0);
  some_answer = λ s d. let k = done_after t u d in has_right Any t u k.0 (else_part.some_answer (decided_sure a b c s).1 k.1);
}

pub if_law : (P Q : Env → Type 0) (a b c : Category) (f : Env → Trace) (t u : Trace) → Lawful P a t → ((env : Env) → P env → Lawful Q b (f env)) → Lawful Q c u → Lawful Q (conditional_category a b c) (choose f u t)
if_law P Q a b c f t u condition then_part else_part = elim (answers t) as (λ _. Lawful Q (conditional_category a b c) (choose f u t)) [
  | inl h ↦ subst (λ (w : Trace). Lawful Q (conditional_category a b c) w) (sym (choose_answered f u t h)) (if_answered P Q a b c f t (can_fail_of a) refl h condition then_part)
  | inr h ↦ subst (λ (w : Trace). Lawful Q (conditional_category a b c) w) (sym (choose_unanswered f u t h)) (if_unanswered P Q a b c t u (can_fail_of a) refl h condition else_part)
]

pub not_law : (P Q : Env → Type 0) (a : Category) (env : Env) (t : Trace) → Lawful P a t → Q env → Lawful Q (negation_category a) (negated env t)
not_law P Q a env t law q = elim (answers t) as (λ _. Lawful Q (negation_category a) (negated env t)) [
  | inl h ↦ record {
    goes = never_each Q (negated env t) (negated_answered env t h);
    no_answer = λ z. negated_answered env t h;
    some_answer = λ s d. absurd (never_has Any t (law.no_answer (not_sure a s)) h);
  }
  | inr h ↦ subst (λ (w : Trace). Lawful Q (negation_category a) w) (sym (negated_unanswered env t h)) (record {
    goes = each_after Q t (one_answer env) (never_each Q t h) (q, tt);
    no_answer = λ z. each_after_done Never t (one_answer env) h (λ d. absurd (never_has Any t h (law.some_answer (not_zero a z) d)));
    some_answer = λ s d. has_right Any t (one_answer env) (done_after t (one_answer env) d).0 (inl tt);
  })
]
