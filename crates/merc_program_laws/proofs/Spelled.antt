-- The fresh variables and tests of an ordered goal, spelt out, keep its truth.
use Rattle.std.proofs.Common.{◌≡◌, inl, inr, ℕ, suc, ◌<◌, ◌≤◌, ◌+◌, Bool, true, false, ◌==◌, ◌||◌, List, [], ◌∷◌, ◌++◌, length, Some, None, refl, ap, sym, ◌∙◌, arith}
use Rattle.merc_base.specs.declared.place.Span.{Span}
use Rattle.merc_tree.specs.declared.declarations.ModeDecl.{ModeDecl}
use Rattle.merc_goal_tree.specs.declared.goal.Operation.{Operation}
use Rattle.merc_goal_tree.specs.declared.goal.Symbol.{Symbol}
use Rattle.merc_graded_tree.specs.declared.basic.BasicGoal.{BasicGoal}
use Rattle.merc_graded_tree.specs.declared.basic.BasicGoal.TheVariants.{Split as SplitGoal, Arithmetic, Call}
use Rattle.merc_graded_tree.specs.declared.basic.Procedure.{Procedure}
use Rattle.merc_graded_tree.specs.declared.entries.Running.TheVariants.{Sequential, Parallel}
use Rattle.merc_graded_tree.specs.Nodes.{Node, node, Basic}
use Rattle.merc_graded_tree.specs.Variables.{variables_of, in_node, in_nodes}
use Rattle.merc_order.specs.Bound.{among}
use Rattle.merc_order.specs.Ordered.{Ordered, Step, Ordereds, put, Truth, Failure, Assign, Test, Build, Split, Computed, Compared, Raised, Called, Sequence, Beside, Choice, Decision, Denial, Within as Inside, no_goals, more_goals}
use Rattle.merc_order.specs.Spelt.{replaced, tested_places, untested_places, written, numbered, with_tests, first_of, inputs_at, twins, step_twins, all_twins, spelt, spelt_step, spelt_all}
use Rattle.merc_meaning.specs.Values.{made}
use Rattle.merc_meaning.specs.Arithmetic.{arithmetic_of}
use Rattle.merc_meaning.specs.Truth.{Assignment, Outside, with, Judgement, assigned}
use Rattle.merc_order_laws.proofs.Facts.{or_left, or_right, or_cases, not_true, among_append}
use Rattle.merc_order_laws.proofs.Replacing.{first_among, numbered_from, numbered_to}
use Rattle.merc_order_laws.proofs.SpeltVariables.{one_place}
use Rattle.merc_program_laws.proofs.Values.{among_there}
use Rattle.merc_program_laws.proofs.Basics.{first_same}
use Rattle.merc_program_laws.proofs.Local.{IsByValues, Match}
use Rattle.merc_program_laws.proofs.Keeping.{Within, Misses, Law, LawAll, LawEach, law_fresh, law_all_fresh, law_each_fresh, law_conjunction, law_disjunction, law_negation, law_quantified, law_none, law_no_arm, law_each, law_more, law_conditional}
use Rattle.merc_program_laws.proofs.Grouping.{AreHeld, fresh, group_law}
use Rattle.merc_program_laws.proofs.Whole.{whole, whole_step, whole_all, Tests, StepTests, TestsAll, TestsEach, tests_stay, tests_all_stay}

-- all variables are below a number
abbrev pub Below : ℕ → Outside → Type 0
Below at these = (v : ℕ) → these v ≡ true → v < at

-- Where the fresh variables are.

misses_below : (xs : List ℕ) (at after : ℕ) (a : Outside) → at ≤ after → Below at a → Misses (fresh after xs) a
misses_below xs at after a u b v h = not_true (a v) (λ k. omega (arith, u, numbered_from after xs v h, b v k))

pub misses_fresh : (xs : List ℕ) (at : ℕ) (a : Outside) → Below at a → Misses (fresh at xs) a
misses_fresh xs at a b = misses_below xs at at a (omega (arith)) b

misses_later : (xs ys : List ℕ) (at after : ℕ) → at + length xs ≤ after → Misses (fresh at xs) (fresh after ys)
misses_later xs ys at after u v h = not_true (fresh after ys v) (λ k. omega (arith, u, numbered_to at xs v h, numbered_from after ys v k))

numbered_append : (xs ys : List ℕ) (at : ℕ) → numbered at (xs ++ ys) ≡ numbered at xs ++ numbered (at + length xs) ys
numbered_append [] ys at = ap (λ (k : ℕ). numbered k ys) (omega (arith))
numbered_append (x ∷ xs) ys at =
    ap (λ (l : List ℕ). at ∷ l) (numbered_append xs ys (suc at) ∙ ap (λ (k : ℕ). numbered (suc at) xs ++ numbered k ys) (omega (arith)))

fresh_both : (xs ys : List ℕ) (at : ℕ) → Within (with (fresh at xs) (fresh (at + length xs) ys)) (fresh at (xs ++ ys))
fresh_both xs ys at v h = ap (λ (l : List ℕ). among l v) (numbered_append xs ys at) ∙ among_append v (numbered at xs) (numbered (at + length xs) ys) ∙ h

fresh_three : (xs ys zs : List ℕ) (at : ℕ) → Within (with (fresh at xs) (with (fresh (at + length xs) ys) (fresh (at + length xs + length ys) zs))) (fresh at (xs ++ (ys ++ zs)))
fresh_three xs ys zs at v h = fresh_both xs (ys ++ zs) at v (elim (or_cases (fresh at xs v) (fresh (at + length xs) ys v || fresh (at + length xs + length ys) zs v) h) as (λ _. with (fresh at xs) (fresh (at + length xs) (ys ++ zs)) v ≡ true) [
  | inl k ↦ or_left (fresh at xs v) (fresh (at + length xs) (ys ++ zs) v) k
  | inr k ↦ or_right (fresh at xs v) (fresh (at + length xs) (ys ++ zs) v) (fresh_both ys zs (at + length xs) v k)
])

below_more : (a : Outside) (at after : ℕ) → at ≤ after → Below at a → Below after a
below_more a at after h p v k = omega (arith, h, p v k)

compute_occurs : (operation : Operation) (left right r v : ℕ) → among (variables_of (Arithmetic operation r left right)) v ≡ (among (left ∷ right ∷ []) v || among (r ∷ []) v)
compute_occurs operation left right r v = spread (v == r) (among (left ∷ right ∷ []) v) where
  spread : (a b : Bool) → (a || b) ≡ (b || (a || false))
  spread true true = refl
  spread true false = refl
  spread false true = refl
  spread false false = refl

pub law_self : (y n : Judgement) (f : Outside) (ok : Outside → Type 0) (m : Node) → Law y n y n f ok m m
law_self y n f ok m = record { grown = (λ v h. inl h, λ v h. h); there = λ out i o s v. (λ h. h, λ h. h); return = λ out i o s v. (λ h. h, λ h. h) }

-- arithmetic over its result as a list of one
abbrev pub compute : Operation → ℕ → ℕ → List ℕ → BasicGoal
compute operation left right results = Arithmetic operation (first_of results) left right

module _ (modes : ℕ → List ModeDecl) (y n : Judgement) (by_y : IsByValues y) (by_n : IsByValues n) where
  split_same : (x : ℕ) (c : Symbol) (xs ys : List ℕ) (s s' : Assignment) → Match (λ v. v == x) s s' → assigned s xs ≡ assigned s' ys → s x ≡ made c (assigned s xs) → s' x ≡ made c (assigned s' ys)
  split_same x c xs ys s s' a e h = a x (or_false (x == x) (first_among x [])) ∙ h ∙ ap (made c) e where
    or_false : (b : Bool) → (b || false) ≡ true → b ≡ true
    or_false true k = refl
    or_false false k = k

  back_values : (these : Outside) (s s' : Assignment) → Match these s s' → Match these s' s
  back_values these s s' a v m = sym (a v m)

  split_law : (at x : ℕ) (c : Symbol) (args : List ℕ) (tests : List Bool) (outs : List ℕ) (span : Span) → Below at (in_node (node (Basic (SplitGoal x c args)) outs None span))
      → Law y n y n (fresh at (tested_places args tests)) (AreHeld args tests) (node (Basic (SplitGoal x c args)) outs None span)
      (with_tests at (SplitGoal x c (replaced at args tests)) (untested_places args tests) (tested_places args tests) outs span)
  split_law at x c args tests outs span small =
      group_law y n (SplitGoal x c) (λ v. v == x) at args tests outs span (λ v. refl) (λ v. refl) small
      (λ s s' a e h. split_same x c args (replaced at args tests) s s' a e h)
      (λ s s' a e h. split_same x c (replaced at args tests) args s s' a e h)
      (λ s s' a e h k. h (split_same x c (replaced at args tests) args s' s (back_values (λ v. v == x) s s' a) (sym e) k))
      (λ s s' a e h k. h (split_same x c args (replaced at args tests) s' s (back_values (λ v. v == x) s s' a) (sym e) k))
      (untested_places args tests)

  call_law : (at : ℕ) (p : Procedure) (args : List ℕ) (tests : List Bool) (writes outs : List ℕ) (span : Span) → Below at (in_node (node (Basic (Call p args)) outs None span))
      → Law y n y n (fresh at (tested_places args tests)) (AreHeld args tests) (node (Basic (Call p args)) outs None span)
      (with_tests at (Call p (replaced at args tests)) writes (tested_places args tests) outs span)
  call_law at p args tests writes outs span small =
      group_law y n (Call p) (λ v. false) at args tests outs span (λ v. refl) (λ v. refl) small
      (λ s s' a e h. by_y p args (replaced at args tests) s s' e h)
      (λ s s' a e h. by_y p (replaced at args tests) args s s' e h)
      (λ s s' a e h. by_n p args (replaced at args tests) s s' e h)
      (λ s s' a e h. by_n p (replaced at args tests) args s s' e h)
      writes

  compute_same : (op : Operation) (left right r q : ℕ) (s s' : Assignment) → Match (among (left ∷ right ∷ [])) s s' → assigned s (r ∷ []) ≡ assigned s' (q ∷ []) → arithmetic_of op (s left) (s right) ≡ Some (s r) → arithmetic_of op (s' left) (s' right) ≡ Some (s' q)
  compute_same op left right r q s s' a e h =
      let e1 : s r ≡ s' q = first_same e in
      let e2 : s' left ≡ s left = a left (first_among left (right ∷ [])) in
      let e3 : s' right ≡ s right = a right (among_there right left (right ∷ []) (first_among right [])) in
      cc

  compute_law : (at : ℕ) (op : Operation) (r left right : ℕ) (tests : List Bool) (outs : List ℕ) (span : Span) → Below at (in_node (node (Basic (Arithmetic op r left right)) outs None span))
      → Law y n y n (fresh at (tested_places (r ∷ []) tests)) (AreHeld (r ∷ []) tests) (node (Basic (Arithmetic op r left right)) outs None span)
      (with_tests at (Arithmetic op (first_of (replaced at (r ∷ []) tests)) left right) (untested_places (r ∷ []) tests) (tested_places (r ∷ []) tests) outs span)
  compute_law at op r left right tests outs span small =
      let q : ℕ = first_of (replaced at (r ∷ []) tests) in
      let e : replaced at (r ∷ []) tests ≡ first_of (replaced at (r ∷ []) tests) ∷ [] = one_place at r tests in
      let ae : (s : Assignment) → assigned s (replaced at (r ∷ []) tests) ≡ assigned s (first_of (replaced at (r ∷ []) tests) ∷ []) = λ s. ap (λ (l : List ℕ). assigned s l) e in
      group_law y n (compute op left right) (among (left ∷ right ∷ [])) at (r ∷ []) tests outs span (compute_occurs op left right r)
      (λ v. compute_occurs op left right (first_of (replaced at (r ∷ []) tests)) v ∙ ap (λ (l : List ℕ). among (left ∷ right ∷ []) v || among l v) (sym e)) small
      (λ s s' a k h. compute_same op left right r q s s' a (k ∙ ae s') h)
      (λ s s' a k h. compute_same op left right q r s s' a (sym (ae s) ∙ k) h)
      (λ s s' a k h j. h (compute_same op left right q r s' s (back_values (among (left ∷ right ∷ [])) s s' a) (sym (k ∙ ae s')) j))
      (λ s s' a k h j. h (compute_same op left right r q s' s (back_values (among (left ∷ right ∷ [])) s s' a) (sym (sym (ae s) ∙ k)) j))
      (untested_places (r ∷ []) tests)

  mutual
    pub spelt_law : (o : Ordered) (at : ℕ) → Below at (in_node (whole o)) → Law y n y n (fresh at (twins o)) (λ out. Tests out o) (whole o) (spelt modes at o)
    spelt_law (put s outs span) at b = step_law s outs span at b

    step_law : (s : Step) (outs : List ℕ) (span : Span) (at : ℕ) → Below at (in_node (node (whole_step s) outs None span))
        → Law y n y n (fresh at (step_twins s)) (λ out. StepTests out s) (node (whole_step s) outs None span) (spelt_step modes at s outs span)
    step_law Truth outs span at b = law_self y n (λ v. false) (λ out. Unit {0}) _
    step_law Failure outs span at b = law_self y n (λ v. false) (λ out. Unit {0}) _
    step_law (Assign to from) outs span at b = law_self y n (λ v. false) (λ out. Unit {0}) _
    step_law (Test one other) outs span at b = law_self y n (λ v. false) (λ out. Unit {0}) _
    step_law (Build all symbol args) outs span at b = law_self y n (λ v. false) (λ out. Unit {0}) _
    step_law (Split all symbol args tests) outs span at b = split_law at all symbol args tests outs span b
    step_law (Computed operation result left right tests) outs span at b = compute_law at operation result left right tests outs span b
    step_law (Compared comparison left right) outs span at b = law_self y n (λ v. false) (λ out. Unit {0}) _
    step_law (Raised text) outs span at b = law_self y n (λ v. false) (λ out. Unit {0}) _
    step_law (Called predicate mode args tests) outs span at b = call_law at (record { predicate = predicate; mode = mode }) args tests (written (inputs_at modes predicate mode) args tests) outs span b
    step_law (Sequence goals) outs span at b =
        law_conjunction y n y n (fresh at (all_twins goals)) (λ out. TestsAll out goals) Sequential Sequential (whole_all goals) (spelt_all modes at goals) outs outs span span (spelt_all_law goals at b)
    step_law (Beside goals) outs span at b =
        law_conjunction y n y n (fresh at (all_twins goals)) (λ out. TestsAll out goals) (Parallel None) (Parallel None) (whole_all goals) (spelt_all modes at goals) outs outs span span (spelt_all_law goals at b)
    step_law (Choice goals) outs span at b =
        law_disjunction y n y n (fresh at (all_twins goals)) (λ out. TestsEach out goals) (whole_all goals) (spelt_all modes at goals) outs outs span span (spelt_each_law goals at b)
    step_law (Decision c t e) outs span at b =
        let after : ℕ = at + length (twins c) in
        let last : ℕ = at + length (twins c) + length (twins t) in
        let u1 : at ≤ at + length (twins c) = omega (arith) in
        let u2 : at + length (twins c) ≤ at + length (twins c) + length (twins t) = omega (arith) in
        let u3 : at ≤ at + length (twins c) + length (twins t) = omega (arith) in
        let bc : Below at (in_node (whole c)) = λ v m. b v (or_left (in_node (whole c) v) (in_node (whole t) v || in_node (whole e) v) m) in
        let bt : Below at (in_node (whole t)) = λ v m. b v (or_right (in_node (whole c) v) (in_node (whole t) v || in_node (whole e) v) (or_left (in_node (whole t) v) (in_node (whole e) v) m)) in
        let be : Below at (in_node (whole e)) = λ v m. b v (or_right (in_node (whole c) v) (in_node (whole t) v || in_node (whole e) v) (or_right (in_node (whole t) v) (in_node (whole e) v) m)) in
        let fc : Outside = fresh at (twins c) in
        let ft : Outside = fresh (at + length (twins c)) (twins t) in
        let fe : Outside = fresh (at + length (twins c) + length (twins t)) (twins e) in
        law_fresh y n y n (with fc (with ft fe)) (fresh at (twins c ++ (twins t ++ twins e))) (λ out. StepTests out (Decision c t e)) (node (whole_step (Decision c t e)) outs None span) (spelt_step modes at (Decision c t e) outs span)
        (fresh_three (twins c) (twins t) (twins e) at)
        (law_conditional y n y n by_y by_n by_y by_n fc ft fe (λ out. Tests out c) (λ out. Tests out t) (λ out. Tests out e) (λ out. StepTests out (Decision c t e))
        (whole c) (whole t) (whole e) (spelt modes at c) (spelt modes (at + length (twins c)) t) (spelt modes (at + length (twins c) + length (twins t)) e) outs outs span span
        (misses_below (twins c) at at (in_node (whole t)) (omega (arith)) bt) (misses_below (twins c) at at (in_node (whole e)) (omega (arith)) be)
        (misses_below (twins t) at after (in_node (whole c)) u1 bc) (misses_below (twins t) at after (in_node (whole e)) u1 be)
        (misses_below (twins e) at last (in_node (whole c)) u3 bc) (misses_below (twins e) at last (in_node (whole t)) u3 bt)
        (misses_later (twins c) (twins t) at after (omega (arith))) (misses_later (twins c) (twins e) at last u2) (misses_later (twins t) (twins e) after last (omega (arith)))
        (tests_stay c) (tests_stay t) (tests_stay e) (λ out o. o.0) (λ out o. o.1) (λ out o. o.2)
        (spelt_law c at bc) (spelt_law t (at + length (twins c)) (below_more (in_node (whole t)) at after u1 bt)) (spelt_law e (at + length (twins c) + length (twins t)) (below_more (in_node (whole e)) at last u3 be)))
    step_law (Denial goal) outs span at b = law_negation y n y n (fresh at (twins goal)) (λ out. Tests out goal) (whole goal) (spelt modes at goal) outs outs span span (spelt_law goal at b)
    step_law (Inside own goal) outs span at b = law_quantified y n y n (fresh at (twins goal)) (λ out. Tests out goal) own own (whole goal) (spelt modes at goal) outs outs span span (spelt_law goal at b)

    spelt_all_law : (os : Ordereds) (at : ℕ) → Below at (in_nodes (whole_all os)) → LawAll y n y n (fresh at (all_twins os)) (λ out. TestsAll out os) (whole_all os) (spelt_all modes at os)
    spelt_all_law no_goals at b = law_none y n y n (λ v. false) (λ out. Unit {0})
    spelt_all_law (more_goals first rest) at b =
        let u : at ≤ at + length (twins first) = omega (arith) in
        let bf : Below at (in_node (whole first)) = λ v m. b v (or_left (in_node (whole first) v) (in_nodes (whole_all rest) v) m) in
        let br : Below at (in_nodes (whole_all rest)) = λ v m. b v (or_right (in_node (whole first) v) (in_nodes (whole_all rest) v) m) in
        law_all_fresh y n y n (with (fresh at (twins first)) (fresh (at + length (twins first)) (all_twins rest))) (fresh at (twins first ++ all_twins rest)) (λ out. TestsAll out (more_goals first rest))
        (whole_all (more_goals first rest)) (spelt_all modes at (more_goals first rest)) (fresh_both (twins first) (all_twins rest) at)
        (law_more y n y n by_y by_n by_y by_n (fresh at (twins first)) (fresh (at + length (twins first)) (all_twins rest)) (λ out. Tests out first) (λ out. TestsAll out rest) (λ out. TestsAll out (more_goals first rest))
        (whole first) (spelt modes at first) (whole_all rest) (spelt_all modes (at + length (twins first)) rest)
        (misses_below (twins first) at at (in_nodes (whole_all rest)) (omega (arith)) br)
        (misses_below (all_twins rest) at (at + length (twins first)) (in_node (whole first)) u bf)
        (misses_later (twins first) (all_twins rest) at (at + length (twins first)) (omega (arith)))
        (tests_stay first) (tests_all_stay rest) (λ out o. o.0) (λ out o. o.1)
        (spelt_law first at bf) (spelt_all_law rest (at + length (twins first)) (below_more (in_nodes (whole_all rest)) at (at + length (twins first)) u br)))

    spelt_each_law : (os : Ordereds) (at : ℕ) → Below at (in_nodes (whole_all os)) → LawEach y n y n (fresh at (all_twins os)) (λ out. TestsEach out os) (whole_all os) (spelt_all modes at os)
    spelt_each_law no_goals at b = law_no_arm y n y n (λ v. false) (λ out. Unit {0})
    spelt_each_law (more_goals first rest) at b =
        let u : at ≤ at + length (twins first) = omega (arith) in
        let bf : Below at (in_node (whole first)) = λ v m. b v (or_left (in_node (whole first) v) (in_nodes (whole_all rest) v) m) in
        let br : Below at (in_nodes (whole_all rest)) = λ v m. b v (or_right (in_node (whole first) v) (in_nodes (whole_all rest) v) m) in
        law_each_fresh y n y n (with (fresh at (twins first)) (fresh (at + length (twins first)) (all_twins rest))) (fresh at (twins first ++ all_twins rest)) (λ out. TestsEach out (more_goals first rest))
        (whole_all (more_goals first rest)) (spelt_all modes at (more_goals first rest)) (fresh_both (twins first) (all_twins rest) at)
        (law_each y n y n (fresh at (twins first)) (fresh (at + length (twins first)) (all_twins rest)) (λ out. Tests out first) (λ out. TestsEach out rest) (λ out. TestsEach out (more_goals first rest))
        (whole first) (spelt modes at first) (whole_all rest) (spelt_all modes (at + length (twins first)) rest) (λ out o. o.0) (λ out o. o.1)
        (spelt_law first at bf) (spelt_each_law rest (at + length (twins first)) (below_more (in_nodes (whole_all rest)) at (at + length (twins first)) u br)))
