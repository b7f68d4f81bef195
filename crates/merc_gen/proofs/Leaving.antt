-- What commit and soften do behind goals, conditions and negated goals.
use Rattle.std.proofs.Common.{◌≡◌, ℕ, zero, suc, ◌-◌, ◌==◌, Bool, true, false, List, [], ◌∷◌, ◌++◌, length, drop, refl, sym, ap, ◌∙◌, subst, arith, if◌then◌else◌}
use Rattle.std.proofs.lemmas.List.{append_assoc, append-nil, length-append}
use Rattle.std.proofs.Math.Seq.{drop-append_seam}
use Rattle.std.proofs.lemmas.Bool.{eq-eqb, ne_eqb}
use Rattle.merc_meaning.specs.Trace.{Env, Done, Raised, TooDeep}
use Rattle.merc_course.specs.Course.{GoalCourse as Trace, Ends, Tick, Answer, first_alone, choose, negated, Meets, left_after}
use Rattle.merc_code.specs.declared.instruction.Instruction.TheVariants.{Commit, Soften, Fail}
use Rattle.merc_code.specs.Steps.{Code, Codes, Caller, ChoicePoint, Dead, GoesOn, State, At, Back, Moves, mark_at, oldest, softened}
use Rattle.merc_code.specs.Meaning.{moves}
use Rattle.merc_gen.proofs.Runs.{Exit, behind, Runs, Keeps, LeavesNone, keeps-same, same-state, late, one-runs, each-runs}

drop-to : (n : ℕ) (X B : List ChoicePoint) → n ≡ length X → drop n (X ++ B) ≡ B
drop-to n X B e = ap (λ x. drop x (X ++ B)) e ∙ drop-append_seam X B

pub committed : (X B : List ChoicePoint) (n : ℕ) → n ≡ length B → oldest n (X ++ B) ≡ B
committed X B n e = drop-to (length (X ++ B) - n) X B (omega (arith, e, length-append X B))

-- with a choice point that was made behind the mark
pub committed-over : (X : List ChoicePoint) (c : ChoicePoint) (B : List ChoicePoint) (n : ℕ) → n ≡ length B → oldest n (X ++ (c ∷ B)) ≡ B
committed-over X c B n e = ap (λ Z. oldest n Z) (sym (append_assoc X (c ∷ []) B)) ∙ committed (X ++ (c ∷ [])) B n e

soften-by : (b : Bool) (c : ChoicePoint) (C D : List ChoicePoint) → b ≡ false → (if b then Dead ∷ C else c ∷ D) ≡ c ∷ D
soften-by true c C D e = absurd cc
soften-by false c C D e = refl

soften-here : (b : Bool) (c : ChoicePoint) (C D : List ChoicePoint) → b ≡ true → (if b then Dead ∷ C else c ∷ D) ≡ Dead ∷ C
soften-here true c C D e = refl
soften-here false c C D e = absurd cc

pub softened-over : (X : List ChoicePoint) (c : ChoicePoint) (B : List ChoicePoint) (n : ℕ) → n ≡ length B → softened n (X ++ (c ∷ B)) ≡ X ++ (Dead ∷ B)
softened-over [] c B n e = soften-here (n == length B) c B (softened n B) (eq-eqb n (length B) e)
softened-over (x ∷ X) c B n e =
    soften-by (n == length (X ++ (c ∷ B))) x (X ++ (c ∷ B)) (softened n (X ++ (c ∷ B)))
    (ne_eqb n (length (X ++ (c ∷ B))) (λ h. omega (arith, e, h, length-append X (c ∷ B))))
    ∙ ap (λ Z. x ∷ Z) (softened-over X c B n e)

soft-step : (X : List ChoicePoint) (c : ChoicePoint) (B : List ChoicePoint) (n : ℕ) → n ≡ length B → softened n (X ++ (c ∷ B)) ≡ (X ++ (Dead ∷ [])) ++ B
soft-step X c B n e = softened-over X c B n e ∙ sym (append_assoc X (Dead ∷ []) B)

nothing-more : (L : List ChoicePoint → Type 0) (Y X : List ChoicePoint) → L Y → X ≡ [] → L (Y ++ X)
nothing-more L Y X a e = subst (λ Z. L Z) (sym (ap (λ Z. Y ++ Z) e ∙ append-nil Y)) a

-- Given are a mark, the code behind the instruction that reads it, the callers, and the marks when it was set.
module _ (codes : Codes) (m : ℕ) (k : Code) (callers : List Caller) (before : List ℕ) where
  -- a goal under mark and commit leaves no choice point, whatever it leaves itself
  pub commit-runs : (L : List ChoicePoint → Type 0) (t : Trace) (l n j : ℕ) (st : List ChoicePoint → State) → mark_at before m ≡ n
      → Runs codes (behind (Commit m ∷ k) callers) (Keeps (suc m) before) L t l n j st
      → Runs codes (behind k callers) (Keeps (suc m) before) (LeavesNone true) (first_alone t) l n j st
  commit-runs L (Ends Done) l n j st e r = r
  commit-runs L (Ends (Raised v)) l n j st e r = r
  commit-runs L (Ends TooDeep) l n j st e r = tt
  commit-runs L (Tick t) zero n j st e r = r
  commit-runs L (Tick t) (suc l) n j st e r = commit-runs L t l n (suc j) st e r
  commit-runs L (Answer env t) l n j st e r =
      let e' : mark_at r.1 m ≡ n = (r.3.at m (omega arith) ∙ e) in
      one-runs codes (behind k callers) (Keeps (suc m) before) (LeavesNone true) env r.1 l n j st refl r.3
      (λ B q. record { by = λ u y. (r.4 B q).by u (moves _ _ u (ap (λ Z. Moves (At k env r.1 callers Z l)) (committed r.0 B (mark_at r.1 m) (e' ∙ sym q))) y) })
  commit-runs L (Meets what ks f) l n j st e r = (r.0, r.1, r.2, r.3, λ x. commit-runs L (f x) (left_after l x) n 0 (r.1 x) e (r.4 x))

  -- a negated goal over the choice point with which what follows goes on
  pub negated-runs : (env0 : Env) (L : List ChoicePoint → Type 0) (t : Trace) (l n j : ℕ) (st : List ChoicePoint → State) → mark_at before m ≡ n
      → Runs codes (behind (Commit m ∷ Fail ∷ k) callers) (Keeps (suc m) before) L t l (suc n) j st
      → Runs codes (behind k callers) (Keeps (suc m) before) (LeavesNone true) (negated env0 t) l n j (λ B. st (GoesOn k env0 before callers ∷ B))
  negated-runs env0 L (Ends Done) l n j st e r =
      one-runs codes (behind k callers) (Keeps (suc m) before) (LeavesNone true) env0 before l n j _ refl (keeps-same (suc m) before)
      (λ B q. record { by = λ u y. (r (GoesOn k env0 before callers ∷ B) (ap suc q)).by u (moves _ _ u refl y) })
  negated-runs env0 L (Ends (Raised v)) l n j st e r = λ B q. r (GoesOn k env0 before callers ∷ B) (ap suc q)
  negated-runs env0 L (Ends TooDeep) l n j st e r = tt
  negated-runs env0 L (Tick t) zero n j st e r = λ B q. r (GoesOn k env0 before callers ∷ B) (ap suc q)
  negated-runs env0 L (Tick t) (suc l) n j st e r = negated-runs env0 L t l n (suc j) st e r
  negated-runs env0 L (Answer env t) l n j st e r =
      let e' : mark_at r.1 m ≡ n = (r.3.at m (omega arith) ∙ e) in
      λ B q. record {
        by = λ u y. (r.4 (GoesOn k env0 before callers ∷ B) (ap suc q)).by u
            (moves _ _ u (ap (λ Z. Moves (At (Fail ∷ k) env r.1 callers Z l)) (committed-over r.0 (GoesOn k env0 before callers) B (mark_at r.1 m) (e' ∙ sym q))) (moves _ _ u refl y));
      }
  negated-runs env0 L (Meets what ks f) l n j st e r =
      (r.0, (λ x B. r.1 x (GoesOn k env0 before callers ∷ B)), r.2, (λ B q. r.3 (GoesOn k env0 before callers ∷ B) (ap suc q)), λ x. negated-runs env0 L (f x) (left_after l x) n 0 (r.1 x) e (r.4 x))

  -- a condition that has answered, over the choice point that only fails
  soft-rest : (L : List ChoicePoint → Type 0) (t : Trace) (l n j : ℕ) (st : List ChoicePoint → State) → mark_at before m ≡ n
      → Runs codes (behind (Soften m ∷ k) callers) (Keeps (suc m) before) L t l (suc n) j st
      → Runs codes (behind k callers) (Keeps (suc m) before) (LeavesNone false) t l n j (λ B. st (Dead ∷ B))
  soft-rest L (Ends Done) l n j st e r = λ B q. record { by = λ u y. (r (Dead ∷ B) (ap suc q)).by u (moves _ _ u refl y) }
  soft-rest L (Ends (Raised v)) l n j st e r = λ B q. r (Dead ∷ B) (ap suc q)
  soft-rest L (Ends TooDeep) l n j st e r = tt
  soft-rest L (Tick t) zero n j st e r = λ B q. r (Dead ∷ B) (ap suc q)
  soft-rest L (Tick t) (suc l) n j st e r = soft-rest L t l n (suc j) st e r
  soft-rest L (Answer env t) l n j st e r =
      let e' : mark_at r.1 m ≡ n = (r.3.at m (omega arith) ∙ e) in (
        r.0 ++ (Dead ∷ []),
        r.1,
        tt,
        r.3,
        (λ B q. record {
          by = λ u y. (r.4 (Dead ∷ B) (ap suc q)).by u
              (moves _ _ u (ap (λ Z. Moves (At k env r.1 callers Z l)) (soft-step r.0 Dead B (mark_at r.1 m) (e' ∙ sym q))) y);
        }),
        λ l'. late codes (behind k callers) (Keeps (suc m) before) (LeavesNone false) t l' n 0 0 0 _ (λ B. Back (r.0 ++ (Dead ∷ B)) l') (omega arith)
            (λ B q. same-state codes _ _ (ap (λ Z. Back Z l') (append_assoc r.0 (Dead ∷ []) B)))
            (soft-rest L t l' n 0 (λ C. Back (r.0 ++ C) l') e (r.5 l')),
      )
  soft-rest L (Meets what ks f) l n j st e r =
      (r.0, (λ x B. r.1 x (Dead ∷ B)), r.2, (λ B q. r.3 (Dead ∷ B) (ap suc q)), λ x. soft-rest L (f x) (left_after l x) n 0 (r.1 x) e (r.4 x))

  -- Given are the exit of a conditional, where it goes on without an answer, and what both parts do.
  module _ (out : Exit) (Ok : List ℕ → Type 0) (W : List ChoicePoint → Type 0) (env0 : Env) (others : Code) (f : Env → Trace) (v : Trace) (n : ℕ) (e : mark_at before m ≡ n)
      (g : (env : Env) (marks : List ℕ) (l n' : ℕ) → Keeps (suc m) before marks → Runs codes out Ok W (f env) l n' 0 (λ B. At k env marks callers B l))
      (h : (l' : ℕ) → Runs codes out Ok W v l' n 0 (λ B. At others env0 before callers B l')) where
    -- a condition that may answer more than once
    pub choose-soft : (h' : (X : List ChoicePoint) → W X) (L : List ChoicePoint → Type 0) (t : Trace) (l j : ℕ) (st : List ChoicePoint → State)
        → Runs codes (behind (Soften m ∷ k) callers) (Keeps (suc m) before) L t l (suc n) j st
        → Runs codes out Ok W (choose f v t) l n j (λ B. st (GoesOn others env0 before callers ∷ B))
    choose-soft h' L (Ends Done) l j st r =
        late codes out Ok W v l n 0 j j _ (λ B. At others env0 before callers B l) (omega arith)
        (λ B q. record { by = λ u y. (r (GoesOn others env0 before callers ∷ B) (ap suc q)).by u (moves _ _ u refl y) }) (h l)
    choose-soft h' L (Ends (Raised x)) l j st r = λ B q. r (GoesOn others env0 before callers ∷ B) (ap suc q)
    choose-soft h' L (Ends TooDeep) l j st r = tt
    choose-soft h' L (Tick t) zero j st r = λ B q. r (GoesOn others env0 before callers ∷ B) (ap suc q)
    choose-soft h' L (Tick t) (suc l) j st r = choose-soft h' L t l (suc j) st r
    choose-soft h' L (Answer env t) l j st r =
        let e' : mark_at r.1 m ≡ n = (r.3.at m (omega arith) ∙ e) in
        each-runs codes (behind k callers) out (Keeps (suc m) before) Ok (LeavesNone false) W W f (λ Y X a b. h' (Y ++ X)) g (Answer env t) l n j _ (
          r.0 ++ (Dead ∷ []),
          r.1,
          tt,
          r.3,
          (λ B q. record {
            by = λ u y. (r.4 (GoesOn others env0 before callers ∷ B) (ap suc q)).by u
                (moves _ _ u (ap (λ Z. Moves (At k env r.1 callers Z l)) (soft-step r.0 (GoesOn others env0 before callers) B (mark_at r.1 m) (e' ∙ sym q))) y);
          }),
          λ l'. late codes (behind k callers) (Keeps (suc m) before) (LeavesNone false) t l' n 0 0 0 _ (λ B. Back (r.0 ++ (Dead ∷ B)) l') (omega arith)
              (λ B q. same-state codes _ _ (ap (λ Z. Back Z l') (append_assoc r.0 (Dead ∷ []) B)))
              (soft-rest L t l' n 0 (λ C. Back (r.0 ++ C) l') e (r.5 l')),
        )
    choose-soft h' L (Meets what ks t) l j st r =
        (r.0, (λ x B. r.1 x (GoesOn others env0 before callers ∷ B)), r.2, (λ B q. r.3 (GoesOn others env0 before callers ∷ B) (ap suc q)), λ x. choose-soft h' L (t x) (left_after l x) 0 (r.1 x) (r.4 x))

    -- a condition that answers once
    pub choose-hard : (L : List ChoicePoint → Type 0) (t : Trace) (l j : ℕ) (st : List ChoicePoint → State)
        → Runs codes (behind (Commit m ∷ k) callers) (Keeps (suc m) before) L t l (suc n) j st
        → Runs codes out Ok W (choose f v (first_alone t)) l n j (λ B. st (GoesOn others env0 before callers ∷ B))
    choose-hard L (Ends Done) l j st r =
        late codes out Ok W v l n 0 j j _ (λ B. At others env0 before callers B l) (omega arith)
        (λ B q. record { by = λ u y. (r (GoesOn others env0 before callers ∷ B) (ap suc q)).by u (moves _ _ u refl y) }) (h l)
    choose-hard L (Ends (Raised x)) l j st r = λ B q. r (GoesOn others env0 before callers ∷ B) (ap suc q)
    choose-hard L (Ends TooDeep) l j st r = tt
    choose-hard L (Tick t) zero j st r = λ B q. r (GoesOn others env0 before callers ∷ B) (ap suc q)
    choose-hard L (Tick t) (suc l) j st r = choose-hard L t l (suc j) st r
    choose-hard L (Answer env t) l j st r =
        let e' : mark_at r.1 m ≡ n = (r.3.at m (omega arith) ∙ e) in
        each-runs codes (behind k callers) out (Keeps (suc m) before) Ok (LeavesNone true) W W f (λ Y X a b. nothing-more W Y X a b) g (Answer env (Ends Done)) l n j _
        (one-runs codes (behind k callers) (Keeps (suc m) before) (LeavesNone true) env r.1 l n j _ refl r.3
        (λ B q. record {
          by = λ u y. (r.4 (GoesOn others env0 before callers ∷ B) (ap suc q)).by u
              (moves _ _ u (ap (λ Z. Moves (At k env r.1 callers Z l)) (committed-over r.0 (GoesOn others env0 before callers) B (mark_at r.1 m) (e' ∙ sym q))) y);
        }))
    choose-hard L (Meets what ks t) l j st r =
        (r.0, (λ x B. r.1 x (GoesOn others env0 before callers ∷ B)), r.2, (λ B q. r.3 (GoesOn others env0 before callers ∷ B) (ap suc q)), λ x. choose-hard L (t x) (left_after l x) 0 (r.1 x) (r.4 x))
