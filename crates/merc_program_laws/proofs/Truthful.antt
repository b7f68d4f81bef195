-- What the truth law says of a trace, and how it is put together.
use Rattle.std.proofs.Common.{◌≡◌, ◌⊎◌, inl, inr, ℕ, zero, suc, Bool, true, false, if◌then◌else◌, List, [], ◌∷◌, Option, Some, None, refl, ap, sym, ◌∙◌, subst}
use Rattle.merc_tree.specs.Types.{TypeExpr}
use Rattle.merc_tree.specs.declared.declarations.TypeDef.{TypeDef}
use Rattle.merc_order.specs.Bound.{with}
use Rattle.merc_order_laws.specs.Bindings.{Variables}
use Rattle.merc_order_laws.proofs.Facts.{clash, or_left, or_right, or_cases, either_way}
use Rattle.merc_value.specs.Value.{Value, Int, Text, Con, Values, none, more, IsValue, AreValues}
use Rattle.merc_meaning.specs.Trace.{Env, Trace, Ends, Tick, Answer, Done, Raised, TooDeep, after, each, taken_back, first_alone, negated}
use Rattle.merc_meaning.specs.Values.{same}
use Rattle.merc_meaning.specs.Steps.{value_at}
use Rattle.merc_meaning.specs.Truth.{Assignment, IsAssignment, AgreeOn}
use Rattle.merc_meaning.proofs.ValueLaws.{same-decides}
use Rattle.merc_program_laws.specs.ValueTypes.{HasType, HaveTypes}
use Rattle.merc_program_laws.specs.Answers.{Each, Has, Any, Never, IsDone, Single}
use Rattle.merc_program_laws.proofs.Traces.{each_map, has_map, has_each, never_has, each_each, done_each, some_each}
use Rattle.merc_program_laws.proofs.Values.{decide, none_not, same_some}
use Rattle.merc_program_laws.specs.Instances.{ArgumentsAgree}

-- an assignment has an environment's values, for variables that occur
abbrev pub Matches : Variables → Assignment → Env → Type 0
Matches occurs s env = (x : ℕ) → occurs x ≡ true → (v : Value) → value_at env x ≡ Some v → s x ≡ v

-- the same for those that occur outside too: it is an instance of the answer
abbrev pub IsInstance : Variables → Variables → Assignment → Env → Type 0
IsInstance out occurs s env = (x : ℕ) → occurs x ≡ true → out x ≡ true → (v : Value) → value_at env x ≡ Some v → s x ≡ v

-- each answer is yes; where the trace is done every other instance of the environment before is no
pub record Truthful (out occurs : Variables) (is_yes is_no : Assignment → Type 0) (env : Env) (t : Trace) : Type 0 where
  pub answers_yes : Each (λ env'. (s : Assignment) → IsAssignment s → Matches occurs s env' → is_yes s) t
  pub others_no : IsDone t → (s : Assignment) → IsAssignment s → Matches occurs s env → is_no s ⊎ Has (λ env'. IsInstance out occurs s env') t

pub each_both : (P Q : Env → Type 0) (t : Trace) → Each P t → Each Q t → Each (λ env. P env × Q env) t
each_both P Q (Ends e) h k = tt
each_both P Q (Tick t) h k = each_both P Q t h k
each_both P Q (Answer env t) h k = ((h.0, k.0), each_both P Q t h.1 k.1)

pub single_taken : (f : Env → Env) (t : Trace) → Single t → Single (taken_back f t)
single_taken f (Ends e) h = tt
single_taken f (Tick t) h = single_taken f t h
single_taken f (Answer env t) h = ap (taken_back f) h

pub first_single : (t : Trace) → Single t → first_alone t ≡ t
first_single (Ends e) h = refl
first_single (Tick t) h = ap Tick (first_single t h)
first_single (Answer env t) h = ap (Answer env) (sym h)

after_done : (t : Trace) → after t (Ends Done) ≡ t
after_done (Ends Done) = refl
after_done (Ends (Raised x)) = refl
after_done (Ends TooDeep) = refl
after_done (Tick t) = ap Tick (after_done t)
after_done (Answer env t) = ap (Answer env) (after_done t)

pub single_each : (f : Env → Trace) (t : Trace) → Single t → ((env : Env) → Single (f env)) → Single (each f t)
single_each f (Ends e) h k = tt
single_each f (Tick t) h k = single_each f t h k
single_each f (Answer env t) h k = subst (λ (u : Trace). Single (after (f env) (each f u))) (sym h) (subst (λ (u : Trace). Single u) (sym (after_done (f env))) (k env))

-- values stay, and only variables that occur are bound
abbrev pub Grows : Variables → Env → Env → Type 0
Grows occurs env env' = ((x : ℕ) (v : Value) → value_at env x ≡ Some v → value_at env' x ≡ Some v) × ((x : ℕ) → occurs x ≡ false → value_at env' x ≡ value_at env x)

pub pick : (P : Env → Type 0) (t : Trace) → Has P t → (env : Env) × P env
pick P (Ends e) h = absurd h
pick P (Tick t) h = pick P t h
pick P (Answer env t) (inl h) = (env, h)
pick P (Answer env t) (inr h) = pick P t h

pub has_any : (P : Env → Type 0) (t : Trace) → Has P t → Has Any t
has_any P t h = has_map P Any t (λ env p. tt) h

decide_or : (A B : Type 0) → A ⊎ (A → ⊥) → B ⊎ (B → ⊥) → (A ⊎ B) ⊎ (A ⊎ B → ⊥)
decide_or A B (inl a) q = inl (inl a)
decide_or A B (inr p) (inl b) = inl (inr b)
decide_or A B (inr p) (inr q) = inr (λ h. elim h as (λ _. ⊥) [ inl a ↦ p a | inr b ↦ q b ])

-- whether some answer is so, where that can be told of each
pub decide_has : (P : Env → Type 0) (t : Trace) → ((env : Env) → P env ⊎ (P env → ⊥)) → Has P t ⊎ (Has P t → ⊥)
decide_has P (Ends e) d = inr (λ h. h)
decide_has P (Tick t) d = decide_has P t d
decide_has P (Answer env t) d = decide_or (P env) (Has P t) (d env) (decide_has P t d)

at_entry : (out occurs : Variables) (s : Assignment) (entry : Option Value) (env : Env) → (occurs zero ≡ true → out zero ≡ true → (v : Value) → entry ≡ Some v → s zero ≡ v)
    → IsInstance (λ x. out (suc x)) (λ x. occurs (suc x)) (λ x. s (suc x)) env → IsInstance out occurs s (entry ∷ env)
at_entry out occurs s entry env h k zero o p v q = h o p v q
at_entry out occurs s entry env h k (suc x) o p v q = k x o p v q

decide_entry : (out occurs : Variables) (s : Assignment) (entry : Option Value) (env : Env) (a : Bool) → a ≡ occurs zero → (b : Bool) → b ≡ out zero
    → IsInstance (λ x. out (suc x)) (λ x. occurs (suc x)) (λ x. s (suc x)) env ⊎ (IsInstance (λ x. out (suc x)) (λ x. occurs (suc x)) (λ x. s (suc x)) env → ⊥)
    → IsInstance out occurs s (entry ∷ env) ⊎ (IsInstance out occurs s (entry ∷ env) → ⊥)
decide_entry out occurs s entry env a e b f (inr h) = inr (λ k. h (λ x o p v q. k (suc x) o p v q))
decide_entry out occurs s None env a e b f (inl h) = inl (at_entry out occurs s None env (λ o p v q. absurd (none_not q)) h)
decide_entry out occurs s (Some w) env false e b f (inl h) = inl (at_entry out occurs s (Some w) env (λ o p v q. absurd (clash o (sym e))) h)
decide_entry out occurs s (Some w) env true e false f (inl h) = inl (at_entry out occurs s (Some w) env (λ o p v q. absurd (clash p (sym f))) h)
decide_entry out occurs s (Some w) env true e true f (inl h) = elim (decide (same (s zero) w) (s zero ≡ w) (same-decides (s zero) w)) as (λ _. IsInstance out occurs s (Some w ∷ env) ⊎ (IsInstance out occurs s (Some w ∷ env) → ⊥)) [
  | inl p ↦ inl (at_entry out occurs s (Some w) env (λ o q v k. p.1 ∙ same_some k) h)
  | inr p ↦ inr (λ k. p.1 (k zero (sym e) (sym f) w refl))
]

-- whether an assignment is an instance of an environment can be told, since an environment is a list
pub decide_instance : (out occurs : Variables) (s : Assignment) (env : Env) → IsInstance out occurs s env ⊎ (IsInstance out occurs s env → ⊥)
decide_instance out occurs s [] = inl (λ x o p v e. absurd (none_not e))
decide_instance out occurs s (entry ∷ env) =
    decide_entry out occurs s entry env (occurs zero) refl (out zero) refl (decide_instance (λ x. out (suc x)) (λ x. occurs (suc x)) (λ x. s (suc x)) env)

decide_slot : (w : Value) (o : Option Value) (A : Type 0) → A ⊎ (A → ⊥) → (((v : Value) → o ≡ Some v → w ≡ v) × A) ⊎ ((((v : Value) → o ≡ Some v → w ≡ v) × A) → ⊥)
decide_slot w o A (inr h) = inr (λ k. h k.1)
decide_slot w None A (inl h) = inl ((λ v e. absurd (none_not e)), h)
decide_slot w (Some u) A (inl h) = elim (decide (same w u) (w ≡ u) (same-decides w u)) as (λ _. (((v : Value) → Some u ≡ Some v → w ≡ v) × A) ⊎ ((((v : Value) → Some u ≡ Some v → w ≡ v) × A) → ⊥)) [
  | inl p ↦ inl ((λ v e. p.1 ∙ same_some e), h)
  | inr p ↦ inr (λ k. p.1 (k.0 u refl))
]

pub decide_head : (args : List ℕ) (s : Assignment) (g : (ℕ → Option Value)) → ArgumentsAgree args s g ⊎ (ArgumentsAgree args s g → ⊥)
decide_head [] s g = inl tt
decide_head (a ∷ args) s g = decide_slot (s a) (g zero) (ArgumentsAgree args s (λ x. g (suc x))) (decide_head args s (λ x. g (suc x)))

then_rest : (out out1 out2 occ1 occ2 : Variables) (no1 no2 : Assignment → Type 0) (env env1 : Env) (u : Trace) (s : Assignment)
    → ((x : ℕ) → occ2 x ≡ true → out1 x ≡ true) → ((x : ℕ) → out x ≡ true → out1 x ≡ true) → ((x : ℕ) → out x ≡ true → out2 x ≡ true)
    → Grows occ1 env env1 → IsInstance out1 occ1 s env1 → Matches (with occ1 occ2) s env → Each (Grows occ2 env1) u
    → no2 s ⊎ Has (λ env'. IsInstance out2 occ2 s env') u → (no1 s ⊎ no2 s) ⊎ Has (λ env'. IsInstance out (with occ1 occ2) s env') u
then_rest out out1 out2 occ1 occ2 no1 no2 env env1 u s in1 out_in1 out_in2 grows inst h grows2 (inl k) = inl (inr k)
then_rest out out1 out2 occ1 occ2 no1 no2 env env1 u s in1 out_in1 out_in2 grows inst h grows2 (inr k) =
    inr (has_map (λ env2. Grows occ2 env1 env2 × IsInstance out2 occ2 s env2) _ u
    (λ env2 p x o m v e. elim (either_way (occ2 x)) as (λ _. s x ≡ v) [
      | inl q ↦ p.1 x q (out_in2 x m) v e
      | inr q ↦ elim (or_cases (occ1 x) (occ2 x) o) as (λ _. s x ≡ v) [
        | inl w ↦ inst x w (out_in1 x m) v (sym (p.0.1 x q) ∙ e)
        | inr w ↦ absurd (clash w q)
      ]
    ])
    (has_each (Grows occ2 env1) (λ env'. IsInstance out2 occ2 s env') u grows2 k))

-- one goal after another
pub then_truth : (out out1 out2 occ1 occ2 : Variables) (yes1 no1 yes2 no2 : Assignment → Type 0) (env : Env) (f : Env → Trace) (t : Trace)
    → ((x : ℕ) → occ2 x ≡ true → out1 x ≡ true) → ((x : ℕ) → out x ≡ true → out1 x ≡ true) → ((x : ℕ) → out x ≡ true → out2 x ≡ true)
    → (P : Env → Type 0) → Each P t → ((env1 : Env) → P env1 → Grows occ1 env env1) → Truthful out1 occ1 yes1 no1 env t
    → ((env1 : Env) → P env1 → Each (Grows occ2 env1) (f env1)) → ((env1 : Env) → P env1 → Truthful out2 occ2 yes2 no2 env1 (f env1))
    → Truthful out (with occ1 occ2) (λ s. yes1 s × yes2 s) (λ s. no1 s ⊎ no2 s) env (each f t)
then_truth out out1 out2 occ1 occ2 yes1 no1 yes2 no2 env f t in1 out_in1 out_in2 P all grows first grows2 rest = record {
  answers_yes = each_each (λ env1. P env1 × ((s : Assignment) → IsAssignment s → Matches occ1 s env1 → yes1 s)) _ f t (each_both P _ t all first.answers_yes)
      (λ env1 p. each_map (λ env2. Grows occ2 env1 env2 × ((s : Assignment) → IsAssignment s → Matches occ2 s env2 → yes2 s)) _ (f env1)
      (λ env2 q s vals h. (p.1 s vals (λ x o v e. h x (or_left (occ1 x) (occ2 x) o) v (q.0.0 x v e)), q.1 s vals (λ x o v e. h x (or_right (occ1 x) (occ2 x) o) v e)))
      (each_both (Grows occ2 env1) _ (f env1) (grows2 env1 p.0) (rest env1 p.0).answers_yes));
  others_no = λ d s vals h. elim (first.others_no (done_each f t d) s vals (λ x o v e. h x (or_left (occ1 x) (occ2 x) o) v e)) as (λ _. (no1 s ⊎ no2 s) ⊎ Has (λ env'. IsInstance out (with occ1 occ2) s env') (each f t)) [
    | inl k ↦ inl (inl k)
    | inr k ↦ some_each (λ env1. P env1 × IsInstance out1 occ1 s env1) (λ env'. IsInstance out (with occ1 occ2) s env') f t d (has_each P (λ env1. IsInstance out1 occ1 s env1) t all k)
        (λ env1 p e. then_rest out out1 out2 occ1 occ2 no1 no2 env env1 (f env1) s in1 out_in1 out_in2 (grows env1 p.0) p.1 h (grows2 env1 p.0)
        ((rest env1 p.0).others_no e s vals (λ x o v q. elim (either_way (occ1 x)) as (λ _. s x ≡ v) [
          | inl m ↦ p.1 x m (in1 x o) v q
          | inr m ↦ h x (or_right (occ1 x) (occ2 x) o) v (sym ((grows env1 p.0).1 x m) ∙ q)
        ])))
  ];
}

-- an instance of an arm's answer is one of the whole's
pub widen_instance : (out out1 occurs whole : Variables) (s : Assignment) (env env' : Env) → ((x : ℕ) → out x ≡ true → out1 x ≡ true) → Grows occurs env env' → Matches whole s env → IsInstance out1 occurs s env' → IsInstance out whole s env'
widen_instance out out1 occurs whole s env env' in1 grows h k x o m v e = elim (either_way (occurs x)) as (λ _. s x ≡ v) [
  | inl q ↦ k x q (in1 x m) v e
  | inr q ↦ h x o v (sym (grows.1 x q) ∙ e)
]

-- an assignment with an environment's values for some variables
abbrev pub or_else : Value → Option Value → Value
or_else v None = v
or_else v (Some w) = w

abbrev pub overridden : Variables → Env → Assignment → Assignment
overridden outside env s x = if outside x then s x else or_else (s x) (value_at env x)

out_case : (b : Bool) (v w : Value) → b ≡ true → (if b then v else w) ≡ v
out_case true v w h = refl
out_case false v w h = absurd (clash h refl)

pub overridden_out : (outside : Variables) (env : Env) (s : Assignment) → AgreeOn outside s (overridden outside env s)
overridden_out outside env s x h = out_case (outside x) (s x) (or_else (s x) (value_at env x)) h

in_case : (b : Bool) (u : Value) (o : Option Value) (v : Value) → o ≡ Some v → (b ≡ true → u ≡ v) → (if b then u else or_else u o) ≡ v
in_case true u o v e h = h refl
in_case false u None v e h = absurd (none_not e)
in_case false u (Some w) v e h = same_some e

pub overridden_in : (outside : Variables) (env : Env) (s : Assignment) (x : ℕ) (v : Value) → value_at env x ≡ Some v → (outside x ≡ true → s x ≡ v) → overridden outside env s x ≡ v
overridden_in outside env s x v e h = in_case (outside x) (s x) (value_at env x) v e h

value_case : (b : Bool) (u : Value) (o : Option Value) → IsValue u → ((v : Value) → o ≡ Some v → IsValue v) → IsValue (if b then u else or_else u o)
value_case true u o p h = p
value_case false u None p h = p
value_case false u (Some w) p h = h w refl

pub overridden_values : (outside : Variables) (env : Env) (s : Assignment) → IsAssignment s → ((x : ℕ) (v : Value) → value_at env x ≡ Some v → IsValue v) → IsAssignment (overridden outside env s)
overridden_values outside env s vals h x = value_case (outside x) (s x) (value_at env x) (vals x) (h x)

-- what has a type is a value
module _ (declared : List TypeDef) where
  mutual
    pub typed_value : (v : Value) (t : TypeExpr) → HasType declared v t → IsValue v
    typed_value (Int n) t h = h.1
    typed_value (Text n) t h = tt
    typed_value (Con c vs) t h = typed_values vs _ h.4

    typed_values : (vs : Values) (ts : List TypeExpr) → HaveTypes declared vs ts → AreValues vs
    typed_values none ts h = tt
    typed_values (more v vs) [] h = absurd h
    typed_values (more v vs) (t ∷ ts) h = (typed_value v t h.0, typed_values vs ts h.1)

-- the first answer of two traces one after the other
pub first_left : (P : Env → Type 0) (t u : Trace) → Single t → Has P t → Has P (first_alone (after t u))
first_left P (Ends e) u h k = absurd k
first_left P (Tick t) u h k = first_left P t u h k
first_left P (Answer env t) u h (inl k) = inl k
first_left P (Answer env t) u h (inr k) = absurd (subst (λ (z : Trace). Has P z) h k)

pub first_right : (P : Env → Type 0) (t u : Trace) → Each Never t → IsDone t → Has P (first_alone u) → Has P (first_alone (after t u))
first_right P (Ends Done) u h d k = k
first_right P (Ends (Raised x)) u h d k = absurd d
first_right P (Ends TooDeep) u h d k = absurd d
first_right P (Tick t) u h d k = first_right P t u h d k
first_right P (Answer env t) u h d k = absurd h.0

pub single_done : (t : Trace) → Single t → Has Any t → IsDone t
single_done (Ends e) h k = absurd k
single_done (Tick t) h k = single_done t h k
single_done (Answer env t) h k = subst (λ (z : Trace). IsDone z) (sym h) tt

pub behind_answered : (t u : Trace) → Each Never t → Has Any (after t u) → IsDone t × Has Any u
behind_answered (Ends Done) u h k = (tt, k)
behind_answered (Ends (Raised x)) u h k = absurd k
behind_answered (Ends TooDeep) u h k = absurd k
behind_answered (Tick t) u h k = behind_answered t u h k
behind_answered (Answer env t) u h k = absurd h.0

pub front_answered : (t u : Trace) → Each Never u → Has Any (after t u) → Has Any t
front_answered (Ends Done) u h k = never_has Any u h k
front_answered (Ends (Raised x)) u h k = k
front_answered (Ends TooDeep) u h k = k
front_answered (Tick t) u h k = front_answered t u h k
front_answered (Answer env t) u h k = inl tt

pub negated_done : (env : Env) (t : Trace) → Has Any t → IsDone (negated env t)
negated_done env (Ends e) h = absurd h
negated_done env (Tick t) h = negated_done env t h
negated_done env (Answer env' t) h = tt

pub single_negated : (env : Env) (t : Trace) → Single (negated env t)
single_negated env (Ends Done) = refl
single_negated env (Ends (Raised x)) = tt
single_negated env (Ends TooDeep) = tt
single_negated env (Tick t) = single_negated env t
single_negated env (Answer env' t) = tt
