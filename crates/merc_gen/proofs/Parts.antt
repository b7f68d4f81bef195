-- What nodes, disjunctions, switches, conditionals and negations do, where their parts do what they mean.
use Rattle.std.proofs.Common.{◌≡◌, ℕ, suc, ◌+◌, Bool, true, false, not, ◌&&◌, List, [], ◌∷◌, ◌++◌, length, drop, Option, Some, None, refl, sym, ap, ◌∙◌, subst, arith, if◌then◌else◌}
use Rattle.std.specs.Option.{is_some}
use Rattle.std.proofs.lemmas.List.{drop-drop}
use mathlib.Core.Path.{fun_ext}
use Rattle.merc_graded_tree.specs.declared.basic.Procedure.{Procedure}
use Rattle.merc_graded_tree.specs.Nodes.{Nodes, no_nodes, more_nodes, Arms, no_arms, more_arms}
use Rattle.merc_value.specs.Value.{Value, Values}
use Rattle.merc_meaning.specs.Trace.{Env, Done, Raised, TooDeep}
use Rattle.merc_course.specs.Course.{GoalCourse as Trace, Ends, Tick, Answer, after, first_alone, choose, negated, Meets, Reply}
use Rattle.merc_meaning.specs.Runs.{Program}
use Rattle.merc_course.specs.Courses.{once_if, where_some, any_course as any_trace, arms_course as arms_trace}
use Rattle.merc_code.specs.declared.instruction.Instruction.{Instruction}
use Rattle.merc_code.specs.declared.instruction.Instruction.TheVariants.{Jump, Try, Mark, Commit, Fail}
use Rattle.merc_code.specs.Steps.{Code, Codes, Caller, ChoicePoint, GoesOn, State, At, Moves, step, marked, switches, target_of, target_at}
use Rattle.merc_code.specs.Meaning.{moves}
use Rattle.merc_gen.specs.Generated.{leaving, are_none, are_no_arms, any_quiet, arms_quiet, any_code, arms_code, targets}
use Rattle.merc_gen.proofs.Fronts.{skips, disjuncts-front, arms-front}
use Rattle.merc_gen.proofs.Runs.{behind, Runs, Keeps, LeavesNone, keeps-same, keeps-more, keeps-marked, mark_at-marked, none-left, none-right, silent, late, after-runs, alone-runs, exit-runs, weaker-runs}
use Rattle.merc_gen.proofs.Leaving.{commit-runs, negated-runs, choose-soft, choose-hard}

drop-over : (xs : Code) (i : Instruction) (rest : Code) → drop (suc (length xs)) (xs ++ (i ∷ rest)) ≡ rest
drop-over [] i rest = refl
drop-over (x ∷ xs) i rest = drop-over xs i rest

-- over the code and one instruction
pub skips-one : (f : Code → Code) → ((r : Code) → f r ≡ f [] ++ r) → (i : Instruction) (rest : Code) → drop (suc (length (f []))) (f (i ∷ rest)) ≡ rest
skips-one f h i rest = ap (λ x. drop (suc (length (f []))) x) (h (i ∷ rest)) ∙ drop-over (f []) i rest

pub after-done : (t : Trace) → after t (Ends Done) ≡ t
after-done (Ends Done) = refl
after-done (Ends (Raised v)) = refl
after-done (Ends TooDeep) = refl
after-done (Tick t) = ap Tick (after-done t)
after-done (Answer env t) = ap (λ x. Answer env x) (after-done t)
after-done (Meets what ks f) = ap (λ x. Meets what ks x) (fun_ext (λ (r : Reply). after-done (f r)))

pub negated-once : (b : Bool) (env : Env) (t : Trace) → negated env (once_if b t) ≡ negated env t
negated-once false env t = refl
negated-once true env (Ends Done) = refl
negated-once true env (Ends (Raised v)) = refl
negated-once true env (Ends TooDeep) = refl
negated-once true env (Tick t) = ap Tick (negated-once true env t)
negated-once true env (Answer answer t) = refl
negated-once true env (Meets what ks f) = ap (λ x. Meets what ks x) (fun_ext (λ (r : Reply). negated-once true env (f r)))

-- a node: mark and commit where the goal may leave something, nothing else
pub framed-runs : (codes : Codes) (once q : Bool) (f : ℕ → Code → Code) (t : Trace) (m : ℕ) (k : Code) (env : Env) (marks : List ℕ) (callers : List Caller) (l n : ℕ)
    → ((m' : ℕ) (k' : Code) (marks' : List ℕ) → Runs codes (behind k' callers) (Keeps m' marks') (LeavesNone q) t l n 0 (λ B. At (f m' k') env marks' callers B l))
    → Runs codes (behind k callers) (Keeps m marks) (LeavesNone (if once then true else q)) (once_if once t) l n 0
    (λ B. At (if once && not q then Mark m ∷ f (suc m) (Commit m ∷ k) else f m k) env marks callers B l)
framed-runs codes true true f t m k env marks callers l n h = alone-runs codes (behind k callers) (Keeps m marks) (LeavesNone true) (λ X e. e) t l n 0 _ (h m k marks)
framed-runs codes true false f t m k env marks callers l n h =
    late codes (behind k callers) (Keeps m marks) (LeavesNone true) (first_alone t) l n 0 0 0 _ (λ B. At (f (suc m) (Commit m ∷ k)) env (marked marks m n) callers B l) (omega arith)
    (λ B q. silent codes _ _ (ap (λ x. Moves (At (f (suc m) (Commit m ∷ k)) env (marked marks m x) callers B l)) q))
    (weaker-runs codes (behind k callers) (Keeps (suc m) (marked marks m n)) (Keeps m marks) (LeavesNone true) (LeavesNone true)
    (λ ms o. keeps-marked m n marks ms o) (λ X e. e) (first_alone t) l n 0 _
    (commit-runs codes m k callers (marked marks m n) (LeavesNone false) t l n 0 _ (mark_at-marked marks m n) (h (suc m) (Commit m ∷ k) (marked marks m n))))
framed-runs codes false q f t m k env marks callers l n h = h m k marks

-- two disjuncts
or-runs : (codes : Codes) (ca nb k : Code) (sa sb m : ℕ) (qa qb : Bool) (ta tb : Trace) (env : Env) (marks : List ℕ) (callers : List Caller) (l n : ℕ) → drop sb nb ≡ k → drop sa ca ≡ nb
    → ((n' : ℕ) → Runs codes (behind (Jump sb ∷ nb) callers) (Keeps m marks) (LeavesNone qa) ta l n' 0 (λ B. At ca env marks callers B l))
    → ((l' : ℕ) → Runs codes (behind k callers) (Keeps m marks) (LeavesNone qb) tb l' n 0 (λ B. At nb env marks callers B l'))
    → Runs codes (behind k callers) (Keeps m marks) (LeavesNone false) (after ta tb) l n 0 (λ B. At (Try sa ∷ ca) env marks callers B l)
or-runs codes ca nb k sa sb m qa qb ta tb env marks callers l n ej et ra rb =
    let c = GoesOn nb env marks callers in
    late codes (behind k callers) (Keeps m marks) (LeavesNone false) (after ta tb) l n 0 0 0 _ (λ B. At ca env marks callers ((c ∷ []) ++ B) l) (omega arith)
    (λ B q. silent codes _ _ (ap (λ x. Moves (At ca env marks callers (GoesOn x env marks callers ∷ B) l)) et))
    (after-runs codes (behind k callers) (Keeps m marks) (LeavesNone false) (LeavesNone false) ta tb (c ∷ []) l n (length (c ∷ []) + n) 0 (λ C. At ca env marks callers C l) refl (λ Y a. tt)
    (exit-runs codes (behind (Jump sb ∷ nb) callers) (behind k callers) (Keeps m marks) (Keeps m marks) (LeavesNone qa) (LeavesNone false)
    (λ e ms C l'. silent codes _ _ (ap (λ x. Moves (At x e ms callers C l')) ej)) (λ ms o. o) (λ X a. tt) ta l (length (c ∷ []) + n) 0 _ (ra (length (c ∷ []) + n)))
    (λ l'. late codes (behind k callers) (Keeps m marks) (LeavesNone false) tb l' n 0 0 0 _ (λ B. At nb env marks callers B l') (omega arith) (λ B q. silent codes _ _ refl)
    (weaker-runs codes (behind k callers) (Keeps m marks) (Keeps m marks) (LeavesNone qb) (LeavesNone false) (λ ms o. o) (λ X a. tt) tb l' n 0 _ (rb l'))))

pub disjuncts-runs : (codes : Codes) (single : Procedure → Bool) (program : Program) (call : Procedure → Env → Trace) (others : Nodes) (f : Code → Code) → ((r : Code) → f r ≡ f [] ++ r)
    → (qa : Bool) (ta : Trace) (m : ℕ) (k : Code) (env : Env) (marks : List ℕ) (callers : List Caller) (l n : ℕ)
    → ((k' : Code) (n' : ℕ) → Runs codes (behind k' callers) (Keeps m marks) (LeavesNone qa) ta l n' 0 (λ B. At (f k') env marks callers B l))
    → ((l' : ℕ) → Runs codes (behind k callers) (Keeps m marks) (LeavesNone (any_quiet single others)) (any_trace program call others env) l' n 0 (λ B. At (any_code single others m k) env marks callers B l'))
    → Runs codes (behind k callers) (Keeps m marks) (LeavesNone (are_none others && qa)) (after ta (any_trace program call others env)) l n 0
    (λ B. At (if are_none others then f k else Try (suc (length (f []))) ∷ f (Jump (length (any_code single others m [])) ∷ any_code single others m k)) env marks callers B l)
disjuncts-runs codes single program call no_nodes f hf qa ta m k env marks callers l n ra rb =
    subst (λ u. Runs codes (behind k callers) (Keeps m marks) (LeavesNone qa) u l n 0 (λ B. At (f k) env marks callers B l)) (sym (after-done ta)) (ra k n)
disjuncts-runs codes single program call (more_nodes second others) f hf qa ta m k env marks callers l n ra rb =
    let nb = any_code single (more_nodes second others) m k in
    let sb = length (any_code single (more_nodes second others) m []) in
    or-runs codes (f (Jump sb ∷ nb)) nb k (suc (length (f []))) sb m qa (any_quiet single (more_nodes second others)) ta (any_trace program call (more_nodes second others) env) env marks callers l n
    (skips (λ r. any_code single (more_nodes second others) m r) (λ r. disjuncts-front single (more_nodes second others) m r) k) (skips-one f hf (Jump sb) nb)
    (λ n'. ra (Jump sb ∷ nb) n') rb

-- one arm, and the others
pub turn-runs : (codes : Codes) (single : Procedure → Bool) (program : Program) (call : Procedure → Env → Trace) (o : Option Values) (others : Arms) (v : Value) (f : Code → Code) → ((r : Code) → f r ≡ f [] ++ r)
    → (whole : Code) (skipped : ℕ) (qa : Bool) (ta : Trace) (m : ℕ) (k : Code) (env : Env) (marks : List ℕ) (callers : List Caller) (l n : ℕ) (st : List ChoicePoint → State)
    → ((k' : Code) → Runs codes (behind k' callers) (Keeps m marks) (LeavesNone qa) ta l n 0 (λ B. At (f k') env marks callers B l))
    → drop skipped whole ≡ (if are_no_arms others then f k else f (Jump (length (arms_code single others m [])) ∷ arms_code single others m k))
    → ((B : List ChoicePoint) → step codes (st B) ≡ switches whole env marks callers B l (if is_some o then Some skipped else target_of v (targets single others m (skipped + suc (length (f []))))))
    → (drop (skipped + suc (length (f []))) whole ≡ arms_code single others m k
    → ((B : List ChoicePoint) → step codes (st B) ≡ switches whole env marks callers B l (target_of v (targets single others m (skipped + suc (length (f []))))))
    → Runs codes (behind k callers) (Keeps m marks) (LeavesNone (arms_quiet single others)) (arms_trace program call others (Some v) env) l n 0 st)
    → Runs codes (behind k callers) (Keeps m marks) (LeavesNone (qa && arms_quiet single others)) (where_some o ta (arms_trace program call others (Some v) env)) l n 0 st
turn-runs codes single program call None no_arms v f hf whole skipped qa ta m k env marks callers l n st ra e h rb = λ B q. silent codes _ _ (h B)
turn-runs codes single program call None (more_arms s body others) v f hf whole skipped qa ta m k env marks callers l n st ra e h rb =
    let arms = more_arms s body others in
    weaker-runs codes (behind k callers) (Keeps m marks) (Keeps m marks) (LeavesNone (arms_quiet single arms)) (LeavesNone (qa && arms_quiet single arms)) (λ ms o. o)
    (λ X a. none-right qa (arms_quiet single arms) X a) (arms_trace program call arms (Some v) env) l n 0 st
    (rb (sym (drop-drop (suc (length (f []))) skipped whole) ∙ (ap (λ x. drop (suc (length (f []))) x) e ∙ skips-one f hf (Jump (length (arms_code single arms m []))) (arms_code single arms m k))) h)
turn-runs codes single program call (Some vs) no_arms v f hf whole skipped qa ta m k env marks callers l n st ra e h rb =
    late codes (behind k callers) (Keeps m marks) (LeavesNone (qa && true)) ta l n 0 0 0 st (λ B. At (f k) env marks callers B l) (omega arith)
    (λ B q. silent codes _ _ (h B ∙ ap (λ x. Moves (At x env marks callers B l)) e))
    (weaker-runs codes (behind k callers) (Keeps m marks) (Keeps m marks) (LeavesNone qa) (LeavesNone (qa && true)) (λ ms o. o) (λ X a. none-left qa true X a) ta l n 0 _ (ra k))
turn-runs codes single program call (Some vs) (more_arms s body others) v f hf whole skipped qa ta m k env marks callers l n st ra e h rb =
    let arms = more_arms s body others in
    let nb = arms_code single arms m k in
    let sb = length (arms_code single arms m []) in
    late codes (behind k callers) (Keeps m marks) (LeavesNone (qa && arms_quiet single arms)) ta l n 0 0 0 st (λ B. At (f (Jump sb ∷ nb)) env marks callers B l) (omega arith)
    (λ B q. silent codes _ _ (h B ∙ ap (λ x. Moves (At x env marks callers B l)) e))
    (exit-runs codes (behind (Jump sb ∷ nb) callers) (behind k callers) (Keeps m marks) (Keeps m marks) (LeavesNone qa) (LeavesNone (qa && arms_quiet single arms))
    (λ e' ms C l'. silent codes _ _ (ap (λ x. Moves (At x e' ms callers C l')) (skips (λ r. arms_code single arms m r) (λ r. arms-front single arms m r) k))) (λ ms o. o)
    (λ X a. none-left qa (arms_quiet single arms) X a) ta l n 0 _ (ra (Jump sb ∷ nb)))

pub switch-runs : (codes : Codes) (single : Procedure → Bool) (program : Program) (call : Procedure → Env → Trace) (o : Option Value) (arms : Arms) (whole : Code) (m : ℕ) (k : Code)
    (env : Env) (marks : List ℕ) (callers : List Caller) (l n : ℕ) (st : List ChoicePoint → State)
    → ((B : List ChoicePoint) → step codes (st B) ≡ switches whole env marks callers B l (target_at o (targets single arms m 0)))
    → ((v : Value) → ((B : List ChoicePoint) → step codes (st B) ≡ switches whole env marks callers B l (target_of v (targets single arms m 0)))
    → Runs codes (behind k callers) (Keeps m marks) (LeavesNone (arms_quiet single arms)) (arms_trace program call arms (Some v) env) l n 0 st)
    → Runs codes (behind k callers) (Keeps m marks) (LeavesNone (arms_quiet single arms)) (arms_trace program call arms o env) l n 0 st
switch-runs codes single program call None no_arms whole m k env marks callers l n st h r = λ B q. silent codes _ _ (h B)
switch-runs codes single program call None (more_arms s body others) whole m k env marks callers l n st h r = λ B q. silent codes _ _ (h B)
switch-runs codes single program call (Some v) arms whole m k env marks callers l n st h r = r v h

-- a conditional
pub conditional-runs : (codes : Codes) (b qc qt qe : Bool) (fc : Code → Code) (thens others k : Code) (size sj m : ℕ) (tc : Trace) (f : Env → Trace) (te : Trace) (env : Env) (marks : List ℕ) (callers : List Caller) (l n : ℕ)
    → drop size (fc thens) ≡ others → drop sj others ≡ k
    → ((k' : Code) (marks' : List ℕ) (n' : ℕ) → Runs codes (behind (leaving b m ∷ k') callers) (Keeps (suc m) marks') (LeavesNone qc) tc l n' 0 (λ B. At (fc k') env marks' callers B l))
    → ((env' : Env) (marks' : List ℕ) (l' n' : ℕ) → Runs codes (behind (Jump sj ∷ others) callers) (Keeps m marks') (LeavesNone qt) (f env') l' n' 0 (λ B. At thens env' marks' callers B l'))
    → ((marks' : List ℕ) (l' : ℕ) → Runs codes (behind k callers) (Keeps m marks') (LeavesNone qe) te l' n 0 (λ B. At others env marks' callers B l'))
    → Runs codes (behind k callers) (Keeps m marks) (LeavesNone (b && (qt && qe))) (choose f te (once_if b tc)) l n 0 (λ B. At (Mark m ∷ Try size ∷ fc thens) env marks callers B l)
conditional-runs codes b qc qt qe fc thens others k size sj m tc f te env marks callers l n et ej rc rt re =
    late codes (behind k callers) (Keeps m marks) (LeavesNone (b && (qt && qe))) (choose f te (once_if b tc)) l n 0 0 0 _
    (λ B. At (fc thens) env marks1 callers (GoesOn others env marks1 callers ∷ B) l) (omega arith)
    (λ B q. record {
      by = λ u y. moves _ _ u (ap (λ x. Moves (At (Try size ∷ fc thens) env (marked marks m x) callers B l)) q)
          (moves _ _ u (ap (λ x. Moves (At (fc thens) env marks1 callers (GoesOn x env marks1 callers ∷ B) l)) et) y);
    })
    (by b rc)
  where
    marks1 : List ℕ
    marks1 = marked marks m n

    kept : Keeps m marks marks1
    kept = keeps-marked m n marks marks1 (keeps-same (suc m) marks1)

    then-runs : (W : List ChoicePoint → Type 0) → ((X : List ChoicePoint) → LeavesNone qt X → W X) → (env' : Env) (marks' : List ℕ) (l' n' : ℕ) → Keeps (suc m) marks1 marks'
        → Runs codes (behind k callers) (Keeps m marks) W (f env') l' n' 0 (λ B. At thens env' marks' callers B l')
    then-runs W w env' marks' l' n' o =
        exit-runs codes (behind (Jump sj ∷ others) callers) (behind k callers) (Keeps m marks') (Keeps m marks) (LeavesNone qt) W
        (λ e ms C l''. silent codes _ _ (ap (λ x. Moves (At x e ms callers C l'')) ej)) (λ ms o'. keeps-more m m marks marks' ms (omega arith) (keeps-marked m n marks marks' o) o') w
        (f env') l' n' 0 _ (rt env' marks' l' n')

    else-runs : (W : List ChoicePoint → Type 0) → ((X : List ChoicePoint) → LeavesNone qe X → W X) → (l' : ℕ)
        → Runs codes (behind k callers) (Keeps m marks) W te l' n 0 (λ B. At others env marks1 callers B l')
    else-runs W w l' =
        weaker-runs codes (behind k callers) (Keeps m marks1) (Keeps m marks) (LeavesNone qe) W (λ ms o. keeps-more m m marks marks1 ms (omega arith) kept o) w te l' n 0 _ (re marks1 l')

    by : (b' : Bool) → ((k' : Code) (marks' : List ℕ) (n' : ℕ) → Runs codes (behind (leaving b' m ∷ k') callers) (Keeps (suc m) marks') (LeavesNone qc) tc l n' 0 (λ B. At (fc k') env marks' callers B l))
        → Runs codes (behind k callers) (Keeps m marks) (LeavesNone (b' && (qt && qe))) (choose f te (once_if b' tc)) l n 0
        (λ B. At (fc thens) env marks1 callers (GoesOn others env marks1 callers ∷ B) l)
    by true rc' =
        choose-hard codes m thens callers marks1 (behind k callers) (Keeps m marks) (LeavesNone (qt && qe)) env others f te n (mark_at-marked marks m n)
        (then-runs (LeavesNone (qt && qe)) (λ X a. none-left qt qe X a)) (else-runs (LeavesNone (qt && qe)) (λ X a. none-right qt qe X a))
        (LeavesNone qc) tc l 0 (λ C. At (fc thens) env marks1 callers C l) (rc' thens marks1 (suc n))
    by false rc' =
        choose-soft codes m thens callers marks1 (behind k callers) (Keeps m marks) (LeavesNone false) env others f te n (mark_at-marked marks m n)
        (then-runs (LeavesNone false) (λ X a. tt)) (else-runs (LeavesNone false) (λ X a. tt)) (λ X. tt)
        (LeavesNone qc) tc l 0 (λ C. At (fc thens) env marks1 callers C l) (rc' thens marks1 (suc n))

-- a negation
pub negation-runs : (codes : Codes) (once q : Bool) (ca k : Code) (size m : ℕ) (t : Trace) (env : Env) (marks : List ℕ) (callers : List Caller) (l n : ℕ) → drop size ca ≡ k
    → ((marks' : List ℕ) (n' : ℕ) → Runs codes (behind (Commit m ∷ Fail ∷ k) callers) (Keeps (suc m) marks') (LeavesNone q) t l n' 0 (λ B. At ca env marks' callers B l))
    → Runs codes (behind k callers) (Keeps m marks) (LeavesNone true) (negated env (once_if once t)) l n 0 (λ B. At (Mark m ∷ Try size ∷ ca) env marks callers B l)
negation-runs codes once q ca k size m t env marks callers l n et r =
    subst (λ u. Runs codes (behind k callers) (Keeps m marks) (LeavesNone true) u l n 0 (λ B. At (Mark m ∷ Try size ∷ ca) env marks callers B l)) (sym (negated-once once env t))
    (late codes (behind k callers) (Keeps m marks) (LeavesNone true) (negated env t) l n 0 0 0 _
    (λ B. At ca env (marked marks m n) callers (GoesOn k env (marked marks m n) callers ∷ B) l) (omega arith)
    (λ B p. record {
      by = λ u y. moves _ _ u (ap (λ x. Moves (At (Try size ∷ ca) env (marked marks m x) callers B l)) p)
          (moves _ _ u (ap (λ x. Moves (At ca env (marked marks m n) callers (GoesOn x env (marked marks m n) callers ∷ B) l)) et) y);
    })
    (weaker-runs codes (behind k callers) (Keeps (suc m) (marked marks m n)) (Keeps m marks) (LeavesNone true) (LeavesNone true) (λ ms o. keeps-marked m n marks ms o) (λ X e. e) (negated env t) l n 0 _
    (negated-runs codes m k callers (marked marks m n) env (LeavesNone q) t l n 0 (λ C. At ca env (marked marks m n) callers C l) (mark_at-marked marks m n) (r (marked marks m n) (suc n)))))
