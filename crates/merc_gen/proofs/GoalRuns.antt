-- What a goal's code does is what the goal means, where calls do what they mean.
use Rattle.std.proofs.Common.{◌≡◌, ℕ, zero, suc, ◌+◌, Bool, true, ◌&&◌, List, [], ◌∷◌, length, drop, Some, None, refl, sym, ap, ◌∙◌, subst, arith}
use Rattle.merc_graded_tree.specs.declared.basic.Procedure.{Procedure}
use Rattle.merc_graded_tree.specs.declared.entries.Running.TheVariants.{Sequential, Parallel}
use Rattle.merc_graded_tree.specs.Nodes.{Node, node, Goal, Basic, Conjunction, Disjunction, Switch as SwitchGoal, Conditional, Negation, Quantified, Nodes, no_nodes, more_nodes, Arms, no_arms, more_arms}
use Rattle.merc_value.specs.Value.{Value}
use Rattle.merc_meaning.specs.Values.{fields}
use Rattle.merc_meaning.specs.Trace.{Env, Done, Raised, TooDeep, RunDone}
use Rattle.merc_course.specs.Course.{GoalCourse as Trace, closed, Ends, Tick, Answer, Meets, cut, cut_all, left_after}
use Rattle.merc_meaning.specs.Steps.{value_at}
use Rattle.merc_meaning.specs.Runs.{Program, answers_once}
use Rattle.merc_course.specs.Variables.{only, node_variables}
use Rattle.merc_course.specs.Courses.{goal_course as goal_trace, node_course as node_trace, all_course as all_trace, any_course as any_trace, arms_course as arms_trace, conjuncts}
use Rattle.merc_code.specs.declared.instruction.Instruction.TheVariants.{Jump, Commit, Fail, Close}
use Rattle.merc_code.specs.Steps.{Code, Codes, Caller, ChoicePoint, State, At, step, switches, target_of, forked_at}
use Rattle.merc_code.specs.Meaning.{Yields, YieldAll, stops, asks, yield_none, yield_more}
use Rattle.merc_gen.proofs.Depths.{Reaches, ReachesAll, fewer-left}
use Rattle.merc_gen.specs.Sites.{Sites}
use Rattle.merc_gen.specs.Generated.{leaving, quiet, node_quiet, all_quiet, any_quiet, arms_quiet, goal_code, node_code, condition_code, negated_code, all_code, any_code, arms_code, targets, conjunct_codes}
use Rattle.merc_gen.specs.Sited.{IsSitedGoal, IsSited, AreSited, AreSitedArms}
use Rattle.merc_gen.proofs.Fronts.{front-then, skips, node-front, condition-front, negated-front}
use Rattle.merc_gen.proofs.Runs.{bulk, behind, Runs, Keeps, LeavesNone, none-if, keeps-same, keeps-more, both-none, same-state, silent, one-runs, weaker-runs, each-runs}
use Rattle.merc_gen.proofs.BasicRuns.{Calls, basic-runs}
use Rattle.merc_gen.proofs.Parts.{framed-runs, disjuncts-runs, turn-runs, switch-runs, conditional-runs, negation-runs}

-- behind the condition and the then part begins the else part
else-place : (single : Procedure → Bool) (c t e : Node) (m : ℕ) (k : Code)
    → drop (length (condition_code single c m (node_code single t m (Jump (length (node_code single e m [])) ∷ []))))
    (condition_code single c m (node_code single t m (Jump (length (node_code single e m [])) ∷ node_code single e m k))) ≡ node_code single e m k
else-place single c t e m k =
    skips (λ r. condition_code single c m (node_code single t m (Jump (length (node_code single e m [])) ∷ r)))
    (λ r. front-then (λ x. condition_code single c m x) (λ x. node_code single t m (Jump (length (node_code single e m [])) ∷ x)) (λ x. condition-front single c m x)
    (λ x. front-then (λ y. node_code single t m y) (λ y. Jump (length (node_code single e m [])) ∷ y) (λ y. node-front single t m y) (λ y. refl) x) r) (node_code single e m k)

-- a conjunct over no choice points, with its end behind it
closes : (codes : Codes) (k : Code) (Ok : List ℕ → Type 0) (L : List ChoicePoint → Type 0) (t : Trace) (l j : ℕ) (st : List ChoicePoint → State)
    → Reaches (suc l) (closed t) → Runs codes (behind (Close ∷ k) []) Ok L t l 0 j st → Yields codes (st []) (bulk j (cut l (closed t)))
closes codes k Ok L (Ends Done) l j st d r = (r [] refl).by (Ends RunDone) (stops _ _ refl)
closes codes k Ok L (Ends (Raised v)) l j st d r = r [] refl
closes codes k Ok L (Ends TooDeep) l j st d r = absurd d
closes codes k Ok L (Tick t) zero j st d r = r [] refl
closes codes k Ok L (Tick t) (suc l) j st d r = closes codes k Ok L t l (suc j) st d r
closes codes k Ok L (Answer env t) l j st d r = (r.4 [] refl).by (Ends RunDone) (stops _ _ refl)
closes codes k Ok L (Meets what ks f) l j st d r =
    (r.3 [] refl).by (cut_all l ks) (λ x. cut (left_after l x) (closed (f x))) (r.2 d.0)
    (λ x. closes codes k Ok L (f x) (left_after l x) 0 (r.1 x) (fewer-left l x (closed (f x)) (d.1 x)) (r.4 x))

module _ (codes : Codes) (single : Procedure → Bool) (program : Program) (call : Procedure → Env → Trace) (calls : Calls codes single program call)
    (sites : Sites) (sited : (site : ℕ) → codes.conjuncts site ≡ conjunct_codes single (sites site)) where
  mutual
    pub goal-runs : (g : Goal) → IsSitedGoal sites g → (m : ℕ) (k : Code) (env : Env) (marks : List ℕ) (callers : List Caller) (l n : ℕ)
        → Runs codes (behind k callers) (Keeps m marks) (LeavesNone (quiet single g)) (goal_trace program call g env) l n 0 (λ B. At (goal_code single g m k) env marks callers B l)
    goal-runs (Basic g) h m k env marks callers l n = basic-runs codes single program call calls g m k env marks callers l n
    goal-runs (Conjunction Sequential ns) h m k env marks callers l n = all-runs ns h m k env marks callers l n
    goal-runs (Conjunction (Parallel None) ns) h m k env marks callers l n = all-runs ns h m k env marks callers l n
    goal-runs (Conjunction (Parallel (Some site)) ns) h m k env marks callers l n = (
      forked_at (codes.conjuncts site.number) env l,
      (λ r B. At k env marks callers B (left_after l r)),
      (λ d. subst (λ x. YieldAll codes (forked_at x env l) (cut_all l (conjuncts program call ns env)))
          (ap (conjunct_codes single) (sym h.0) ∙ sym (sited site.number)) (conjuncts-yield ns h.1 env l d)),
      (λ B q. record { by = λ u v y z. asks _ _ _ _ u v refl y z }),
      λ r. one-runs codes (behind k callers) (Keeps m marks) (LeavesNone (all_quiet single ns)) env marks (left_after l r) n 0 _ (none-if (all_quiet single ns) [] refl) (keeps-same m marks)
          (λ B p. same-state codes _ _ refl),
    )
    goal-runs (Disjunction ns) h m k env marks callers l n = any-runs ns h m k env marks callers l n
    goal-runs (SwitchGoal x arms) h m k env marks callers l n =
        switch-runs codes single program call (value_at env x) arms (arms_code single arms m k) m k env marks callers l n _ (λ B. refl)
        (λ v h'. arms-runs arms h v m k env marks callers l n (arms_code single arms m k) 0 _ refl h')
    goal-runs (Conditional (node g outputs category span) t e) h m k env marks callers l n =
        let c = node g outputs category span in
        conditional-runs codes (answers_once outputs category) (quiet single g) (node_quiet single t) (node_quiet single e) (λ r. condition_code single c m (r))
        (node_code single t m (Jump (length (node_code single e m [])) ∷ node_code single e m k)) (node_code single e m k) k
        (length (condition_code single c m (node_code single t m (Jump (length (node_code single e m [])) ∷ [])))) (length (node_code single e m [])) m
        (goal_trace program call g env) (λ inner. node_trace program call t inner) (node_trace program call e env) env marks callers l n
        (else-place single c t e m k) (skips (λ r. node_code single e m r) (λ r. node-front single e m r) k)
        (λ k' marks' n'. goal-runs g h.0 (suc m) (leaving (answers_once outputs category) m ∷ k') env marks' callers l n')
        (λ env' marks' l' n'. node-runs t h.1 m (Jump (length (node_code single e m [])) ∷ node_code single e m k) env' marks' callers l' n')
        (λ marks' l'. node-runs e h.2 m k env marks' callers l' n)
    goal-runs (Negation (node g outputs category span)) h m k env marks callers l n =
        let c = node g outputs category span in
        negation-runs codes (answers_once outputs category) (quiet single g) (negated_code single c m k) k (length (negated_code single c m [])) m (goal_trace program call g env) env marks callers l n
        (skips (λ r. negated_code single c m r) (λ r. negated-front single c m r) k)
        (λ marks' n'. goal-runs g h (suc m) (Commit m ∷ Fail ∷ k) env marks' callers l n')
    goal-runs (Quantified own n') h m k env marks callers l n = node-runs n' h m k env marks callers l n

    pub node-runs : (x : Node) → IsSited sites x → (m : ℕ) (k : Code) (env : Env) (marks : List ℕ) (callers : List Caller) (l n : ℕ)
        → Runs codes (behind k callers) (Keeps m marks) (LeavesNone (node_quiet single x)) (node_trace program call x env) l n 0 (λ B. At (node_code single x m k) env marks callers B l)
    node-runs (node g outputs category span) h m k env marks callers l n =
        framed-runs codes (answers_once outputs category) (quiet single g) (λ m' k'. goal_code single g m' k') (goal_trace program call g env) m k env marks callers l n
        (λ m' k' marks'. goal-runs g h m' k' env marks' callers l n)

    all-runs : (ns : Nodes) → AreSited sites ns → (m : ℕ) (k : Code) (env : Env) (marks : List ℕ) (callers : List Caller) (l n : ℕ)
        → Runs codes (behind k callers) (Keeps m marks) (LeavesNone (all_quiet single ns)) (all_trace program call ns env) l n 0 (λ B. At (all_code single ns m k) env marks callers B l)
    all-runs no_nodes h m k env marks callers l n =
        one-runs codes (behind k callers) (Keeps m marks) (LeavesNone true) env marks l n 0 _ refl (keeps-same m marks) (λ B p. same-state codes _ _ refl)
    all-runs (more_nodes first ns) h m k env marks callers l n =
        each-runs codes (behind (all_code single ns m k) callers) (behind k callers) (Keeps m marks) (Keeps m marks) (LeavesNone (node_quiet single first)) (LeavesNone (all_quiet single ns))
        (LeavesNone (node_quiet single first && all_quiet single ns)) (λ inner. all_trace program call ns inner) (λ Y X e f. both-none (node_quiet single first) (all_quiet single ns) Y X e f)
        (λ inner marks' l' n' o. weaker-runs codes (behind k callers) (Keeps m marks') (Keeps m marks) (LeavesNone (all_quiet single ns)) (LeavesNone (all_quiet single ns))
        (λ ms o'. keeps-more m m marks marks' ms (omega arith) o o') (λ X e. e) (all_trace program call ns inner) l' n' 0 _ (all-runs ns h.1 m k inner marks' callers l' n'))
        (node_trace program call first env) l n 0 _ (node-runs first h.0 m (all_code single ns m k) env marks callers l n)

    conjuncts-yield : (ns : Nodes) → AreSited sites ns → (env : Env) (l : ℕ)
        → ReachesAll (suc l) (conjuncts program call ns env) → YieldAll codes (forked_at (conjunct_codes single ns) env l) (cut_all l (conjuncts program call ns env))
    conjuncts-yield no_nodes h env l d = yield_none
    conjuncts-yield (more_nodes first ns) h env l d =
        let inner = only (node_variables first) env in
        yield_more _ _ _ _
        (closes codes [] (Keeps 0 []) (LeavesNone (node_quiet single first)) (node_trace program call first inner) l 0 _ d.0 (node-runs first h.0 0 (Close ∷ []) inner [] [] l 0))
        (conjuncts-yield ns h.1 env l d.1)

    any-runs : (ns : Nodes) → AreSited sites ns → (m : ℕ) (k : Code) (env : Env) (marks : List ℕ) (callers : List Caller) (l n : ℕ)
        → Runs codes (behind k callers) (Keeps m marks) (LeavesNone (any_quiet single ns)) (any_trace program call ns env) l n 0 (λ B. At (any_code single ns m k) env marks callers B l)
    any-runs no_nodes h m k env marks callers l n = λ B q. silent codes _ _ refl
    any-runs (more_nodes first others) h m k env marks callers l n =
        disjuncts-runs codes single program call others (λ r. node_code single first m r) (λ r. node-front single first m r) (node_quiet single first) (node_trace program call first env) m k env marks callers l n
        (λ k' n'. node-runs first h.0 m k' env marks callers l n') (λ l'. any-runs others h.1 m k env marks callers l' n)

    arms-runs : (arms : Arms) → AreSitedArms sites arms → (v : Value) (m : ℕ) (k : Code) (env : Env) (marks : List ℕ) (callers : List Caller) (l n : ℕ) (whole : Code) (skipped : ℕ) (st : List ChoicePoint → State)
        → drop skipped whole ≡ arms_code single arms m k
        → ((B : List ChoicePoint) → step codes (st B) ≡ switches whole env marks callers B l (target_of v (targets single arms m skipped)))
        → Runs codes (behind k callers) (Keeps m marks) (LeavesNone (arms_quiet single arms)) (arms_trace program call arms (Some v) env) l n 0 st
    arms-runs no_arms a v m k env marks callers l n whole skipped st e h = λ B q. silent codes _ _ (h B)
    arms-runs (more_arms symbol body others) a v m k env marks callers l n whole skipped st e h =
        turn-runs codes single program call (fields symbol v) others v (λ r. node_code single body m r) (λ r. node-front single body m r) whole skipped (node_quiet single body)
        (node_trace program call body env) m k env marks callers l n st (λ k'. node-runs body a.0 m k' env marks callers l n) e h
        (λ e' h'. arms-runs others a.1 v m k env marks callers l n whole (skipped + suc (length (node_code single body m []))) st e' h')
