-- An ordered goal has the truth of the goal in flat form.
use Rattle.std.proofs.Common.{◌≡◌, inl, inr, ℕ, zero, suc, ◌+◌, Bool, true, false, ◌==◌, ◌||◌, ◌&&◌, if◌then◌else◌, List, [], ◌∷◌, ◌++◌, length, Option, Some, None, refl, ap, sym, subst, ◌∙◌}
use Rattle.std.specs.Prelude.{slice_get}
use Rattle.merc_base.specs.declared.place.Span.{Span}
use Rattle.merc_base.specs.declared.refusal.Refusal.{Refusal}
use Rattle.merc_tree.specs.declared.declarations.ModeDecl.{ModeDecl}
use Rattle.merc_goal_tree.specs.declared.goal.SimpleGoal.{SimpleGoal}
use Rattle.merc_goal_tree.specs.declared.goal.SimpleGoal.TheVariants.{True, Fail, Same, Shape, Arithmetic, Compare, Raise, Call}
use Rattle.merc_goal_tree.specs.declared.goal.Symbol.{Symbol}
use Rattle.merc_goal_tree.specs.Nodes.{Node, Nodes, Simple, Conjunction, Parallel, Disjunction, Conditional, Negation, Quantified, no_nodes, more_nodes, span_of}
use Rattle.merc_goal_tree.specs.Variables.{variables, all_variables}
use Rattle.merc_graded_tree.specs.declared.basic.BasicGoal.{BasicGoal}
use Rattle.merc_graded_tree.specs.declared.basic.BasicGoal.TheVariants.{True as TrueGoal, Fail as FailGoal, Assign as AssignGoal, Test as TestGoal, Build as BuildGoal, Split as SplitGoal, Arithmetic as ArithmeticGoal, Compare as CompareGoal, Raise as RaiseGoal, Call as CallGoal}
use Rattle.merc_graded_tree.specs.declared.basic.Procedure.{Procedure}
use Rattle.merc_graded_tree.specs.declared.entries.Running.TheVariants.{Sequential, Parallel as Forked}
use Rattle.merc_graded_tree.specs.Nodes.{Node as OrderedNode, node, Basic, Nodes as OrderedNodes, no_nodes as no_ordered, more_nodes as more_ordered}
use Rattle.merc_graded_tree.specs.Variables.{variables_of as basic_variables, in_node, in_nodes}
use Rattle.merc_order.specs.Bound.{Bound, with, among, are_bound}
use Rattle.merc_order.specs.CallModes.{taken_from, tested, call_tested}
use Rattle.merc_order.specs.Faults.{never_ready, binds_outer, unbound_output}
use Rattle.merc_order.specs.Moves.{Move, Next, next, settled, settled_next, beside, each_from}
use Rattle.merc_order.specs.Order.{binds, arms, decision_arms, binds_inside, agree, outputs_of, same_from, called_from, simple_from, from, moves}
use Rattle.merc_order.specs.Ordered.{Ordered, Ordereds, put, Truth, Failure, Assign, Test, Build, Split, Computed, Compared, Raised, Called, Sequence, Beside, Choice, Decision, Denial, Within as Inside, no_goals, more_goals, Outcome, Ready, Stuck, is_ready, AllReady, if_ready}
use Rattle.merc_order.specs.Ways.{Removed, here, later}
use Rattle.merc_order.proofs.MoveLaws.{next_is, next_none, removed_length, suc_is}
use Rattle.merc_meaning.specs.Truth.{Assignment, Outside, with as also, Judgement, YesBasic, NoBasic}
use Rattle.merc_order_laws.proofs.Facts.{clash, or_left, or_right, or_cases}
use Rattle.merc_order_laws.proofs.Ordering.{chosen, ready_is, all_ready_is, stuck_not, if_ready_is, if_all_ready_is, then_all_is, and_all_is, beside_is, if_is, if_then, none_found}
use Rattle.merc_program_laws.specs.Plain.{plain_goal, plain, plain_all}
use Rattle.merc_program_laws.proofs.Basics.{either}
use Rattle.merc_program_laws.proofs.Local.{IsByValues}
use Rattle.merc_program_laws.proofs.Keeping.{Within, Always, Misses, Law, LawAll, LawEach, law_goal, law_conjunction, law_disjunction, law_negation, law_quantified, law_none, law_no_arm, law_each, law_more, law_conditional}
use Rattle.merc_program_laws.proofs.Permuting.{Removed as NodeRemoved, here as node_here, later as node_later, removed_in, removed_keeps, placed_keeps, keeps_then}
use Rattle.merc_program_laws.proofs.Whole.{whole, whole_all, Tests, TestsAll, TestsEach}
use Rattle.merc_program_laws.proofs.Plains.{binds_in}
use Rattle.merc_program_laws.proofs.Held.{held_by, call_held, taken_is}

swap_two : (a b : Bool) → (a || (b || false)) ≡ (b || (a || false))
swap_two true true = refl
swap_two true false = refl
swap_two false true = refl
swap_two false false = refl

abbrev pub procedure : ℕ → ℕ → Procedure
procedure predicate mode = record { predicate = predicate; mode = mode }

-- a predicate has so many modes and more
abbrev pub IsMode : (ℕ → List ModeDecl) → ℕ → ℕ → Type 0
IsMode modes p mode = (m : ModeDecl) × (slice_get (modes p) mode ≡ Some m)

module _ (total : ℕ → ℕ) (modes : ℕ → List ModeDecl) where
  -- what one goal binds is bound behind it
  bound_in : (m : Node) (bound : Outside) → Within (with bound (binds total modes m)) (also bound (in_node (plain m)))
  bound_in m bound v h = elim (or_cases (bound v) (binds total modes m v) h) as (λ _. also bound (in_node (plain m)) v ≡ true) [
    | inl k ↦ or_left (bound v) (in_node (plain m) v) k
    | inr k ↦ or_right (bound v) (in_node (plain m) v) (binds_in total modes m v k)
  ]

  -- Given is that a call in flat form has the truth of the call in each mode of its predicate.
  module _ (y n y' n' : Judgement) (by_y : IsByValues y) (by_n : IsByValues n) (by_y' : IsByValues y') (by_n' : IsByValues n')
      (call_there : (p mode : ℕ) (args : List ℕ) (s : Assignment) → IsMode modes p mode → (y (procedure p 0) args s → y' (procedure p mode) args s) × (n (procedure p 0) args s → n' (procedure p mode) args s))
      (call_return : (p mode : ℕ) (args : List ℕ) (s : Assignment) → IsMode modes p mode → (y' (procedure p mode) args s → y (procedure p 0) args s) × (n' (procedure p mode) args s → n (procedure p 0) args s)) where
    abbrev pub Fits : Outside → OrderedNode → Ordered → Type 0
    Fits bound m o = Law y n y' n' (λ v. false) Always m (whole o) × ((out : Outside) → Within bound out → Tests out o)

    abbrev pub FitsAll : Outside → OrderedNodes → Ordereds → Type 0
    FitsAll bound ms os = LawAll y n y' n' (λ v. false) Always ms (whole_all os) × ((out : Outside) → Within bound out → TestsAll out os)

    abbrev pub FitsEach : Outside → OrderedNodes → Ordereds → Type 0
    FitsEach bound ms os = LawEach y n y' n' (λ v. false) Always ms (whole_all os) × ((out : Outside) → Within bound out → TestsEach out os)

    moved_to : (bound : Outside) (m : OrderedNode) (g o : Ordered) → Ready g ≡ Ready o → Fits bound m g → Fits bound m o
    moved_to bound m g o e f = subst (λ (z : Ordered). Fits bound m z) (ready_is g o e) f

    -- Goals that hold no others.

    abbrev pub KeepsBasic : BasicGoal → BasicGoal → Type 0
    KeepsBasic b b' = (s : Assignment) → (YesBasic y n b s → YesBasic y' n' b' s) × (NoBasic y n b s → NoBasic y' n' b' s)

    abbrev pub ReturnsBasic : BasicGoal → BasicGoal → Type 0
    ReturnsBasic b b' = (s : Assignment) → (YesBasic y' n' b' s → YesBasic y n b s) × (NoBasic y' n' b' s → NoBasic y n b s)

    pair_law : (b b' : BasicGoal) (outs : List ℕ) (at : Span) → ((v : ℕ) → among (basic_variables b') v ≡ among (basic_variables b) v) → KeepsBasic b b' → ReturnsBasic b b'
        → Law y n y' n' (λ v. false) Always (node (Basic b) [] None at) (node (Basic b') outs None at)
    pair_law b b' outs at e t r = law_goal y n y' n' (λ v. false) Always (Basic b) (Basic b') [] outs at at (λ v h. inl (sym (e v) ∙ h), λ v h. e v ∙ h) (λ out i o s v. t s) (λ out i o s v. r s)

    -- the same goal, which is no call
    same_law : (b : BasicGoal) (outs : List ℕ) (at : Span) → KeepsBasic b b → ReturnsBasic b b → Law y n y' n' (λ v. false) Always (node (Basic b) [] None at) (node (Basic b) outs None at)
    same_law b outs at t r = pair_law b b outs at (λ v. refl) t r

    same_fits : (bound : Outside) (one other : ℕ) (a b : Bool) (outs : List ℕ) (at : Span) (o : Ordered) → same_from total modes one other a b outs at ≡ Ready o → Fits bound (node (Basic (TestGoal one other)) [] None at) o
    same_fits bound one other true true outs at o e =
        moved_to bound (node (Basic (TestGoal one other)) [] None at) (put (Test one other) outs at) o e (same_law (TestGoal one other) outs at (λ s. (λ h. h, λ h. h)) (λ s. (λ h. h, λ h. h)), λ out w. tt)
    same_fits bound one other true false outs at o e =
        moved_to bound (node (Basic (TestGoal one other)) [] None at) (put (Assign other one) outs at) o e (
          pair_law (TestGoal one other) (AssignGoal other one) outs at (λ v. swap_two (v == other) (v == one)) (λ s. (λ h. sym h, λ h k. h (sym k))) (λ s. (λ h. sym h, λ h k. h (sym k))),
          λ out w. tt,
        )
    same_fits bound one other false true outs at o e =
        moved_to bound (node (Basic (TestGoal one other)) [] None at) (put (Assign one other) outs at) o e
        (pair_law (TestGoal one other) (AssignGoal one other) outs at (λ v. refl) (λ s. (λ h. h, λ h. h)) (λ s. (λ h. h, λ h. h)), λ out w. tt)
    same_fits bound one other false false outs at o e = stuck_not (never_ready at) o e

    shape_fits : (bound : Outside) (x : ℕ) (c : Symbol) (args : List ℕ) (outs : List ℕ) (at : Span) (o : Ordered) → simple_from total modes (Shape x c args) outs at bound ≡ Ready o → Fits bound (node (Basic (SplitGoal x c args)) [] None at) o
    shape_fits bound x c args outs at o e =
        elim (chosen (bound x) (Ready (put (Split x c args (tested bound args)) outs at)) (if are_bound bound args then Ready (put (Build x c args) outs at) else Stuck (never_ready at)) (Ready o) e)
        as (λ _. Fits bound (node (Basic (SplitGoal x c args)) [] None at) o) [
          | inl h ↦ moved_to bound (node (Basic (SplitGoal x c args)) [] None at) (put (Split x c args (tested bound args)) outs at) o h.1
              (same_law (SplitGoal x c args) outs at (λ s. (λ h. h, λ h. h)) (λ s. (λ h. h, λ h. h)), λ out w. held_by args bound out w)
          | inr h ↦ elim (chosen (are_bound bound args) (Ready (put (Build x c args) outs at)) (Stuck (never_ready at)) (Ready o) h.1) as (λ _. Fits bound (node (Basic (SplitGoal x c args)) [] None at) o) [
            | inl k ↦ moved_to bound (node (Basic (SplitGoal x c args)) [] None at) (put (Build x c args) outs at) o k.1
                (pair_law (SplitGoal x c args) (BuildGoal x c args) outs at (λ v. refl) (λ s. (λ h. h, λ h. h)) (λ s. (λ h. h, λ h. h)), λ out w. tt)
            | inr k ↦ stuck_not (never_ready at) o k.1
          ]
        ]

    asked_fits : (bound : Outside) (m : OrderedNode) (b : Bool) (g o : Ordered) (x : Refusal) → (if b then Ready g else Stuck x) ≡ Ready o → Fits bound m g → Fits bound m o
    asked_fits bound m b g o x e f = subst (λ (z : Ordered). Fits bound m z) (if_is b g o x e).1 f

    call_fits : (bound : Outside) (p : ℕ) (args : List ℕ) (outs : List ℕ) (at : Span) (t : Option (ℕ × ModeDecl)) (o : Ordered) → taken_from 0 bound args (modes p) ≡ t → called_from total modes bound p args t outs at ≡ Ready o
        → Fits bound (node (Basic (CallGoal (procedure p 0) args)) [] None at) o
    call_fits bound p args outs at None o q e = stuck_not (never_ready at) o e
    call_fits bound p args outs at (Some t) o q e =
        let i : IsMode modes p t.0 = (t.1, taken_is (modes p) bound args t q) in
        moved_to bound (node (Basic (CallGoal (procedure p 0) args)) [] None at) (put (Called p t.0 args (call_tested bound t.1.args args)) outs at) o e
        (pair_law (CallGoal (procedure p 0) args) (CallGoal (procedure p t.0) args) outs at (λ v. refl) (λ s. call_there p t.0 args s i) (λ s. call_return p t.0 args s i), λ out w. call_held t.1.args args bound out w)

    basic_fits : (g : SimpleGoal) (outs : List ℕ) (at : Span) (bound : Outside) (o : Ordered) → simple_from total modes g outs at bound ≡ Ready o → Fits bound (node (Basic (plain_goal g)) [] None at) o
    basic_fits True outs at bound o e = moved_to bound (node (Basic TrueGoal) [] None at) (put Truth outs at) o e (same_law TrueGoal outs at (λ s. (λ h. h, λ h. h)) (λ s. (λ h. h, λ h. h)), λ out w. tt)
    basic_fits Fail outs at bound o e = moved_to bound (node (Basic FailGoal) [] None at) (put Failure outs at) o e (same_law FailGoal outs at (λ s. (λ h. h, λ h. h)) (λ s. (λ h. h, λ h. h)), λ out w. tt)
    basic_fits (Same one other) outs at bound o e = same_fits bound one other (bound one) (bound other) outs at o e
    basic_fits (Shape x c args) outs at bound o e = shape_fits bound x c args outs at o e
    basic_fits (Arithmetic op r left right) outs at bound o e =
        asked_fits bound (node (Basic (ArithmeticGoal op r left right)) [] None at) (bound left && bound right) (put (Computed op r left right (tested bound (r ∷ []))) outs at) o (never_ready at) e
        (same_law (ArithmeticGoal op r left right) outs at (λ s. (λ h. h, λ h. h)) (λ s. (λ h. h, λ h. h)), λ out w. held_by (r ∷ []) bound out w)
    basic_fits (Compare test left right) outs at bound o e =
        asked_fits bound (node (Basic (CompareGoal test left right)) [] None at) (bound left && bound right) (put (Compared test left right) outs at) o (never_ready at) e
        (same_law (CompareGoal test left right) outs at (λ s. (λ h. h, λ h. h)) (λ s. (λ h. h, λ h. h)), λ out w. tt)
    basic_fits (Raise text) outs at bound o e =
        asked_fits bound (node (Basic (RaiseGoal text)) [] None at) (bound text) (put (Raised text) outs at) o (never_ready at) e (same_law (RaiseGoal text) outs at (λ s. (λ h. h, λ h. h)) (λ s. (λ h. h, λ h. h)), λ out w. tt)
    basic_fits (Call p args) outs at bound o e = call_fits bound p args outs at (taken_from 0 bound args (modes p)) o refl e

    -- Lists of goals.

    abbrev pub GoalFits : Node → Type 0
    GoalFits m = (bound : Bound) (o : Ordered) → from total modes m bound ≡ Ready o → Fits bound (plain m) o

    abbrev pub AllFit : Nodes → Type 0
    AllFit no_nodes = Unit {0}
    AllFit (more_nodes m ms) = GoalFits m × AllFit ms

    never : (a : Outside) → Misses (λ v. false) a
    never a v h = clash h refl

    more_fits : (bound later_bound : Outside) (m : OrderedNode) (ms : OrderedNodes) (o : Ordered) (os : Ordereds) → Fits bound m o → FitsAll later_bound ms os → Within later_bound (also bound (in_node m)) → FitsAll bound (more_ordered m ms) (more_goals o os)
    more_fits bound later_bound m ms o os f fs w = (
      law_more y n y' n' by_y by_n by_y' by_n' (λ v. false) (λ v. false) Always Always Always m (whole o) ms (whole_all os) (never (in_nodes ms)) (never (in_node m)) (never (λ v. false))
          (λ out out' w o. tt) (λ out out' w o. tt) (λ out o. tt) (λ out o. tt) f.0 fs.0,
      λ out i. (
        f.1 (also out (in_nodes (whole_all os))) (λ v h. or_left (out v) (in_nodes (whole_all os) v) (i v h)),
        fs.1 (also out (in_node (whole o))) (λ v h. elim (or_cases (bound v) (in_node m v) (w v h)) as (λ _. also out (in_node (whole o)) v ≡ true) [
          | inl k ↦ or_left (out v) (in_node (whole o) v) (i v k)
          | inr k ↦ or_right (out v) (in_node (whole o) v) (f.0.grown.1 v k)
        ]),
      ),
    )

    none_fits : (bound : Outside) (os : Ordereds) → AllReady no_goals ≡ AllReady os → FitsAll bound no_ordered os
    none_fits bound os e = subst (λ (z : Ordereds). FitsAll bound no_ordered z) (all_ready_is no_goals os e) (law_none y n y' n' (λ v. false) Always, λ out w. tt)

    each_fits : (ms : Nodes) → AllFit ms → (bound : Outside) (os : Ordereds) → each_from (moves total modes ms) bound ≡ AllReady os → FitsEach bound (plain_all ms) os
    each_fits no_nodes a bound os e = subst (λ (z : Ordereds). FitsEach bound no_ordered z) (all_ready_is no_goals os e) (law_no_arm y n y' n' (λ v. false) Always, λ out w. tt)
    each_fits (more_nodes m ms) a bound os e =
        let (g, r, p, q, z) = and_all_is (from total modes m bound) (each_from (moves total modes ms) bound) os e in
        let f : Fits bound (plain m) g = a.0 bound g p in
        let fs : FitsEach bound (plain_all ms) r = each_fits ms a.1 bound r q in
        subst (λ (k : Ordereds). FitsEach bound (plain_all (more_nodes m ms)) k) z (
          law_each y n y' n' (λ v. false) (λ v. false) Always Always Always (plain m) (whole g) (plain_all ms) (whole_all r) (λ out o. tt) (λ out o. tt) f.0 fs.0,
          λ out w. (f.1 out w, fs.1 out w),
        )

    beside_fits : (ms : Nodes) → AllFit ms → (number : ℕ) (bound : Outside) (os : Ordereds) → beside number (moves total modes ms) bound ≡ AllReady os → FitsAll bound (plain_all ms) os
    beside_fits no_nodes a number bound os e = none_fits bound os e
    beside_fits (more_nodes m ms) a number bound os e =
        let one : Move = record { binds = λ v. binds total modes m v; span = span_of m; from = λ k. from total modes m k } in
        let (g, r, p, q, z) = beside_is number one (moves total modes ms) bound (from total modes m bound) (beside (number + 1) (moves total modes ms) (with bound (binds total modes m))) os e in
        subst (λ (k : Ordereds). FitsAll bound (plain_all (more_nodes m ms)) k) z
        (more_fits bound (with bound (binds total modes m)) (plain m) (plain_all ms) g r (a.0 bound g p) (beside_fits ms a.1 (number + 1) (with bound (binds total modes m)) r q) (bound_in m bound))

    -- a move that is taken out is a goal that is
    record Taken (ms : Nodes) (move : Move) (others : List Move) : Type 0 where
      one : Node
      rest : Nodes
      removed : NodeRemoved (plain one) (plain_all ms) (plain_all rest)
      is_from : (bound : Bound) → move.from bound ≡ from total modes one bound
      is_binds : (v : ℕ) → move.binds v ≡ binds total modes one v
      is_rest : others ≡ moves total modes rest
      fits : AllFit ms → GoalFits one × AllFit rest

    taken : (ms : Nodes) (move : Move) (others : List Move) → Removed move (moves total modes ms) others → Taken ms move others
    taken no_nodes move others r = elim r [ ]
    taken (more_nodes m ms) move others (here k o) =
        record { one = m; rest = ms; removed = node_here (plain m) (plain_all ms); is_from = λ bound. refl; is_binds = λ v. refl; is_rest = refl; fits = λ a. a }
    taken (more_nodes m ms) move others (later f k a o r) =
        let t = taken ms move o r in
        record {
          one = t.one;
          rest = more_nodes m t.rest;
          removed = node_later (plain m) (plain t.one) (plain_all ms) (plain_all t.rest) t.removed;
          is_from = t.is_from;
          is_binds = t.is_binds;
          is_rest = ap (λ l. record { binds = λ v. binds total modes m v; span = span_of m; from = λ k. from total modes m k } ∷ l) t.is_rest;
          fits = λ a. ((t.fits a.1).0, (a.0, (t.fits a.1).1));
        }

    -- the law of goals in another order
    permuted : (bound : Outside) (m : OrderedNode) (all others : OrderedNodes) (os : Ordereds) → NodeRemoved m all others → FitsAll bound (more_ordered m others) os → FitsAll bound all os
    permuted bound m all others os r f = (
      record {
        grown = (λ v h. either (λ k. removed_in m all others r v ∙ k) (λ k. k) (f.0.grown.0 v h), λ v h. f.0.grown.1 v (sym (removed_in m all others r v) ∙ h));
        there = λ out i o. keeps_then y n all (more_ordered m others) (whole_all os) out y' n' (removed_keeps y n m all others r out) (f.0.there out i o);
        return = λ out i o s v.
            let p = placed_keeps y n m all others r out s v in
            let q = f.0.return out i o s v in
            (λ h. p.0 (q.0 h), λ h. p.1 (q.1 h));
      },
      f.1,
    )

    settled_step : (left : ℕ) (ms : Nodes) → AllFit ms → (bound : Outside) (os : Ordereds) (first : Outcome) (found : Option Next) → length (moves total modes ms) ≡ suc left → next (moves total modes ms) bound ≡ found
        → (found ≡ None → is_ready first ≡ true → ⊥)
        → ((rest : Nodes) → AllFit rest → (now : Outside) (r : Ordereds) → length (moves total modes rest) ≡ left → settled left (moves total modes rest) now ≡ AllReady r → FitsAll now (plain_all rest) r)
        → settled_next first bound found (settled left) ≡ AllReady os → FitsAll bound (plain_all ms) os
    settled_step left ms a bound os first None count e some again h = absurd (some refl (none_found first os h))
    settled_step left ms a bound os first (Some found) count e some again h =
        let i = next_is (moves total modes ms) bound found e in
        let t = taken ms i.move found.others i.removed in
        let (r, p, z) = then_all_is found.goal (settled left found.others (with bound found.binds)) os h in
        let now_is : settled left (moves total modes t.rest) (with bound found.binds) ≡ AllReady r = subst (λ (l : List Move). settled left l (with bound found.binds) ≡ AllReady r) t.is_rest p in
        let counted : length (moves total modes t.rest) ≡ left = ap (λ (l : List Move). length l) (sym t.is_rest) ∙ suc_is (length found.others) left (sym (removed_length i.move (moves total modes ms) found.others i.removed) ∙ count) in
        let all = t.fits a in
        let one_fits : Fits bound (plain t.one) found.goal = all.0 bound found.goal (sym (t.is_from bound) ∙ i.outcome) in
        let rest_fits : FitsAll (with bound found.binds) (plain_all t.rest) r = again t.rest all.1 (with bound found.binds) r counted now_is in
        let bound_now : (v : ℕ) → found.binds v ≡ binds total modes t.one v = λ v. ap (λ (k : Bound). k v) i.binds_is ∙ t.is_binds v in
        let inside : Within (with bound found.binds) (also bound (in_node (plain t.one))) = λ v k. bound_in t.one bound v (subst (λ (b : Bool). (bound v || b) ≡ true) (bound_now v) k) in
        subst (λ (k : Ordereds). FitsAll bound (plain_all ms) k) z
        (permuted bound (plain t.one) (plain_all ms) (plain_all t.rest) (more_goals found.goal r) t.removed
        (more_fits bound (with bound found.binds) (plain t.one) (plain_all t.rest) found.goal r one_fits rest_fits inside))

    settled_fits : (left : ℕ) (ms : Nodes) → AllFit ms → (bound : Outside) (os : Ordereds) → length (moves total modes ms) ≡ left → settled left (moves total modes ms) bound ≡ AllReady os → FitsAll bound (plain_all ms) os
    settled_fits left no_nodes a bound os count e = none_fits bound os e
    settled_fits zero (more_nodes m ms) a bound os count e = absurd cc
    settled_fits (suc left) (more_nodes m ms) a bound os count e =
        let one : Move = record { binds = λ v. binds total modes m v; span = span_of m; from = λ k. from total modes m k } in
        settled_step left (more_nodes m ms) a bound os (from total modes m bound) (next (moves total modes (more_nodes m ms)) bound) count refl
        (λ gone ready. next_none one (one ∷ moves total modes ms) (moves total modes ms) bound (here one (moves total modes ms)) ready gone)
        (λ rest b now r c f. settled_fits left rest b now r c f) e

    -- an if-then-else, of its parts
    decision_fits : (bound : Outside) (c t r : Node) (oc ot oe : Ordered) (outs : List ℕ) (at : Span) → Fits bound (plain c) oc → Fits (with bound (binds total modes c)) (plain t) ot → Fits bound (plain r) oe
        → Fits bound (plain (Conditional c t r at)) (put (Decision oc ot oe) outs at)
    decision_fits bound c t r oc ot oe outs at fc ft fr = (
      law_conditional y n y' n' by_y by_n by_y' by_n' (λ v. false) (λ v. false) (λ v. false) Always Always Always Always (plain c) (plain t) (plain r) (whole oc) (whole ot) (whole oe) [] outs at at
          (never (in_node (plain t))) (never (in_node (plain r))) (never (in_node (plain c))) (never (in_node (plain r))) (never (in_node (plain c))) (never (in_node (plain t)))
          (never (λ v. false)) (never (λ v. false)) (never (λ v. false)) (λ out out' w o. tt) (λ out out' w o. tt) (λ out out' w o. tt) (λ out o. tt) (λ out o. tt) (λ out o. tt) fc.0 ft.0 fr.0,
      λ out w. (
        fc.1 (also out (in_node (whole oe))) (λ v h. or_left (out v) (in_node (whole oe) v) (w v h)),
        ft.1 (also out (also (in_node (whole oc)) (in_node (whole oe)))) (λ v h. elim (or_cases (bound v) (in_node (plain c) v) (bound_in c bound v h)) as (λ _. also out (also (in_node (whole oc)) (in_node (whole oe))) v ≡ true) [
          | inl k ↦ or_left (out v) (in_node (whole oc) v || in_node (whole oe) v) (w v k)
          | inr k ↦ or_right (out v) (in_node (whole oc) v || in_node (whole oe) v) (or_left (in_node (whole oc) v) (in_node (whole oe) v) (fc.0.grown.1 v k))
        ]),
        fr.1 (also out (also (in_node (whole oc)) (in_node (whole ot)))) (λ v h. or_left (out v) (in_node (whole oc) v || in_node (whole ot) v) (w v h)),
      ),
    )

    mutual
      -- what becomes of a goal has the goal's truth, and tests nothing but what is bound before or by the goal itself
      pub from_fits : (m : Node) → GoalFits m
      from_fits (Simple g at) bound o e = basic_fits g (outputs_of total modes bound (Simple g at)) at bound o e
      from_fits (Conjunction goals at) bound o e =
          let outs : List ℕ = outputs_of total modes bound (Conjunction goals at) in
          let (all, p, q) = if_all_ready_is (settled (length (moves total modes goals)) (moves total modes goals) bound) (λ all. Ready (put (Sequence all) (outputs_of total modes bound (Conjunction goals at)) at)) o e in
          let f : FitsAll bound (plain_all goals) all = settled_fits (length (moves total modes goals)) goals (all_from goals) bound all refl p in
          moved_to bound (plain (Conjunction goals at)) (put (Sequence all) outs at) o q (law_conjunction y n y' n' (λ v. false) Always Sequential Sequential (plain_all goals) (whole_all all) [] outs at at f.0, f.1)
      from_fits (Parallel goals at) bound o e =
          let outs : List ℕ = outputs_of total modes bound (Parallel goals at) in
          let (all, p, q) = if_all_ready_is (beside 1 (moves total modes goals) bound) (λ all. Ready (put (Beside all) (outputs_of total modes bound (Parallel goals at)) at)) o e in
          let f : FitsAll bound (plain_all goals) all = beside_fits goals (all_from goals) 1 bound all p in
          moved_to bound (plain (Parallel goals at)) (put (Beside all) outs at) o q (law_conjunction y n y' n' (λ v. false) Always (Forked None) (Forked None) (plain_all goals) (whole_all all) [] outs at at f.0, f.1)
      from_fits (Disjunction goals at) bound o e =
          let outs : List ℕ = outputs_of total modes bound (Disjunction goals at) in
          let (all, p, q) = if_all_ready_is (each_from (moves total modes goals) bound)
          (λ all. if agree total modes bound (all_variables goals) (arms total modes goals) then Ready (put (Choice all) (outputs_of total modes bound (Disjunction goals at)) at) else Stuck (unbound_output at)) o e in
          let f : FitsEach bound (plain_all goals) all = each_fits goals (all_from goals) bound all p in
          asked_fits bound (plain (Disjunction goals at)) (agree total modes bound (all_variables goals) (arms total modes goals)) (put (Choice all) outs at) o (unbound_output at) q
          (law_disjunction y n y' n' (λ v. false) Always (plain_all goals) (whole_all all) [] outs at at f.0, f.1)
      from_fits (Conditional c t r at) bound o e =
          let (oc, p, q) = if_ready_is (from total modes c bound) (λ first.
          if binds_inside total modes bound (variables c ++ variables t) (variables c) (binds total modes c)
          then if_ready (from total modes t (with bound (binds total modes c))) (λ second. if_ready (from total modes r bound) (λ third.
          if agree total modes bound (variables (Conditional c t r at)) (decision_arms total modes c t r)
          then Ready (put (Decision first second third) (outputs_of total modes bound (Conditional c t r at)) at) else Stuck (unbound_output at)))
          else Stuck (binds_outer (span_of c))) o e in
          let q1 = if_then (binds_inside total modes bound (variables c ++ variables t) (variables c) (binds total modes c))
          (if_ready (from total modes t (with bound (binds total modes c))) (λ second. if_ready (from total modes r bound) (λ third.
          if agree total modes bound (variables (Conditional c t r at)) (decision_arms total modes c t r)
          then Ready (put (Decision oc second third) (outputs_of total modes bound (Conditional c t r at)) at) else Stuck (unbound_output at)))) (binds_outer (span_of c)) o q in
          let (ot, p2, q2) = if_ready_is (from total modes t (with bound (binds total modes c))) (λ second. if_ready (from total modes r bound) (λ third.
          if agree total modes bound (variables (Conditional c t r at)) (decision_arms total modes c t r)
          then Ready (put (Decision oc second third) (outputs_of total modes bound (Conditional c t r at)) at) else Stuck (unbound_output at))) o q1.1 in
          let (oe, p3, q3) = if_ready_is (from total modes r bound) (λ third.
          if agree total modes bound (variables (Conditional c t r at)) (decision_arms total modes c t r)
          then Ready (put (Decision oc ot third) (outputs_of total modes bound (Conditional c t r at)) at) else Stuck (unbound_output at)) o q2 in
          asked_fits bound (plain (Conditional c t r at)) (agree total modes bound (variables (Conditional c t r at)) (decision_arms total modes c t r))
          (put (Decision oc ot oe) (outputs_of total modes bound (Conditional c t r at)) at) o (unbound_output at) q3
          (decision_fits bound c t r oc ot oe (outputs_of total modes bound (Conditional c t r at)) at (from_fits c bound oc p) (from_fits t (with bound (binds total modes c)) ot p2) (from_fits r bound oe p3))
      from_fits (Negation goal at) bound o e =
          let (g, p, q) = if_ready_is (from total modes goal bound) (λ inner. if binds_inside total modes bound (variables goal) (variables goal) (binds total modes goal) then Ready (put (Denial inner) [] at) else Stuck (binds_outer at)) o e in
          let f : Fits bound (plain goal) g = from_fits goal bound g p in
          asked_fits bound (plain (Negation goal at)) (binds_inside total modes bound (variables goal) (variables goal) (binds total modes goal)) (put (Denial g) [] at) o (binds_outer at) q
          (law_negation y n y' n' (λ v. false) Always (plain goal) (whole g) [] [] at at f.0, f.1)
      from_fits (Quantified own goal at) bound o e =
          let outs : List ℕ = outputs_of total modes bound (Quantified own goal at) in
          let (g, p, q) = if_ready_is (from total modes goal bound) (λ inner. Ready (put (Inside own inner) (outputs_of total modes bound (Quantified own goal at)) at)) o e in
          let f : Fits bound (plain goal) g = from_fits goal bound g p in
          moved_to bound (plain (Quantified own goal at)) (put (Inside own g) outs at) o q (law_quantified y n y' n' (λ v. false) Always own own (plain goal) (whole g) [] outs at at f.0, f.1)

      all_from : (ms : Nodes) → AllFit ms
      all_from no_nodes = tt
      all_from (more_nodes m ms) = (λ bound o e. from_fits m bound o e, all_from ms)
