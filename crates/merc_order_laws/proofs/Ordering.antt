-- An ordered goal is good.
use Rattle.std.proofs.Common.{◌≡◌, ◌⊎◌, inl, inr, ℕ, zero, suc, ◌+◌, Bool, true, false, not, ◌==◌, ◌||◌, ◌&&◌, if◌then◌else◌, List, [], ◌∷◌, ◌++◌, length, Option, Some, None, slice_get, filter, refl, ap, sym, subst, ◌∙◌, arith}
use Rattle.std.proofs.lemmas.Bool.Decides.{Decides-eqb}
use Rattle.std.specs.List.{list_all, list_any, AllByRecursion}
use Rattle.merc_base.specs.declared.place.Span.{Span}
use Rattle.merc_base.specs.declared.refusal.Refusal.{Refusal}
use Rattle.merc_tree.specs.declared.declarations.ModeDecl.{ModeDecl}
use Rattle.merc_goal_tree.specs.declared.goal.Operation.{Operation}
use Rattle.merc_goal_tree.specs.declared.goal.SimpleGoal.{SimpleGoal}
use Rattle.merc_goal_tree.specs.declared.goal.SimpleGoal.TheVariants.{True, Fail, Same, Shape, Arithmetic, Compare, Raise, Call}
use Rattle.merc_goal_tree.specs.declared.goal.Symbol.{Symbol}
use Rattle.merc_goal_tree.specs.Nodes.{Node, Nodes, Simple, Conjunction, Parallel, Disjunction, Conditional, Negation, Quantified, no_nodes, more_nodes, span_of}
use Rattle.merc_goal_tree.specs.Variables.{variables_of, variables, all_variables, count}
use Rattle.merc_order.specs.Bound.{Bound, with, among, are_bound}
use Rattle.merc_order.specs.CallModes.{inputs_of, taken_from, can_succeed, tested, call_tested}
use Rattle.merc_order.specs.Faults.{never_ready, binds_outer, unbound_output, conjunct_fault}
use Rattle.merc_order.specs.Moves.{Move, Next, next, fault_in, settled, settled_next, needed, beside, beside_next, each_from}
use Rattle.merc_order.specs.Order.{Arm, any_reached, counting, all_bind, differ_on, arms_bind, outside, shared, reached, all_reached, some_reached, binds, some_bind, arms, decision_arms, binds_inside, agree, outputs, same_from, called_from, simple_from, from, moves}
use Rattle.merc_order.specs.Ordered.{Ordered, Step, Ordereds, put, Truth, Failure, Assign, Test, Build, Split, Computed, Compared, Raised, Called, Sequence, Beside, Choice, Decision, Denial, Within as Inside, no_goals, more_goals, Outcome, Ready, Stuck, is_ready, Outcomes, AllReady, OneStuck, then_all, and_all, if_ready, if_all_ready}
use Rattle.merc_order.specs.Spelt.{untested_places, written}
use Rattle.merc_order.specs.Ways.{Removed, here, later}
use Rattle.merc_order.proofs.MoveLaws.{next_is, next_none, removed_length, suc_is}
use Rattle.merc_order_laws.specs.Bindings.{Variables, Binds}
use Rattle.merc_order_laws.specs.GoodOrdered.{GoodCall, EachBinds, Good, GoodStep, GoodList, GoodEach}
use Rattle.merc_order_laws.specs.Laws.{Sized, AllSized, Outer, OrderedIsGood, OrderedKeepsVariables, OrderedEnds}
use Rattle.merc_order_laws.specs.OrderedVariables.{in_ordered, in_step, in_ordereds, ordered_outputs, bound_behind, ends, step_ends, all_end, some_ends}
use Rattle.merc_order_laws.proofs.Facts.{clash, or_left, or_right, or_cases, and_left, and_right, either_way, not_true, same_bool, or_same, and_same, or_assoc, among_append, among_counts, counts_among, count_append, not_counted, Together, together_left, together_turned, outer_part}
use Rattle.merc_order_laws.proofs.Fewer.{fewer, fewer_each}
use Rattle.merc_order_laws.proofs.Groups.{among_outputs, outs_in, outs_free, behind_node, binds_all, places_bound, tested_all, tested_free, same_length, call_fits_places, written_all, written_free, all_bound, bound_in, inputs_in, taken_takes}

pub chosen : (b : Bool) (x y z : Outcome) → (if b then x else y) ≡ z → ((b ≡ true) × (x ≡ z)) ⊎ ((b ≡ false) × (y ≡ z))
chosen true x y z h = inl (refl, h)
chosen false x y z h = inr (refl, h)

pub ready_is : (g o : Ordered) → Ready g ≡ Ready o → g ≡ o
ready_is g o h = cc

pub all_ready_is : (g o : Ordereds) → AllReady g ≡ AllReady o → g ≡ o
all_ready_is g o h = cc

pub stuck_not : {A : Type 0} (f : Refusal) (o : Ordered) → Stuck f ≡ Ready o → A
stuck_not f o h = absurd cc

pub one_stuck_not : {A : Type 0} (f : Refusal) (o : Ordereds) → OneStuck f ≡ AllReady o → A
one_stuck_not f o h = absurd cc

pub if_ready_is : (x : Outcome) (f : Ordered → Outcome) (o : Ordered) → if_ready x f ≡ Ready o → (g : Ordered) × (x ≡ Ready g) × (f g ≡ Ready o)
if_ready_is (Ready g) f o h = (g, refl, h)
if_ready_is (Stuck x) f o h = stuck_not x o h

pub if_all_ready_is : (x : Outcomes) (f : Ordereds → Outcome) (o : Ordered) → if_all_ready x f ≡ Ready o → (g : Ordereds) × (x ≡ AllReady g) × (f g ≡ Ready o)
if_all_ready_is (AllReady g) f o h = (g, refl, h)
if_all_ready_is (OneStuck x) f o h = stuck_not x o h

pub then_all_is : (g : Ordered) (x : Outcomes) (os : Ordereds) → then_all g x ≡ AllReady os → (r : Ordereds) × (x ≡ AllReady r) × (more_goals g r ≡ os)
then_all_is g (AllReady r) os h = (r, refl, cc)
then_all_is g (OneStuck x) os h = one_stuck_not x os h

pub and_all_is : (x : Outcome) (xs : Outcomes) (os : Ordereds) → and_all x xs ≡ AllReady os → (g : Ordered) × (r : Ordereds) × (x ≡ Ready g) × (xs ≡ AllReady r) × (more_goals g r ≡ os)
and_all_is (Ready g) xs os h = let (r, e, f) = then_all_is g xs os h in (g, r, refl, e, f)
and_all_is (Stuck x) xs os h = one_stuck_not x os h

pub beside_is : (number : ℕ) (move : Move) (ms : List Move) (bound : Bound) (x : Outcome) (xs : Outcomes) (os : Ordereds) → beside_next number move ms bound x xs ≡ AllReady os
    → (g : Ordered) × (r : Ordereds) × (x ≡ Ready g) × (xs ≡ AllReady r) × (more_goals g r ≡ os)
beside_is number move ms bound (Ready g) xs os h = let (r, e, f) = then_all_is g xs os h in (g, r, refl, e, f)
beside_is number move ms bound (Stuck x) xs os h = one_stuck_not (conjunct_fault number move.span (needed (number + 1) move ms bound) x) os h

pub none_found : (x : Outcome) (os : Ordereds) → fault_in x ≡ AllReady os → is_ready x ≡ true
none_found (Ready g) os h = refl
none_found (Stuck x) os h = one_stuck_not x os h

pub if_is : (b : Bool) (g o : Ordered) (f : Refusal) → (if b then Ready g else Stuck f) ≡ Ready o → (b ≡ true) × (g ≡ o)
if_is true g o f h = (refl, ready_is g o h)
if_is false g o f h = stuck_not f o h

pub if_then : (b : Bool) (x : Outcome) (f : Refusal) (o : Ordered) → (if b then x else Stuck f) ≡ Ready o → (b ≡ true) × (x ≡ Ready o)
if_then true x f o h = (refl, h)
if_then false x f o h = stuck_not f o h

-- a variable occurs in all where it occurs in these or in those
among_together : (all xs ys : List ℕ) → Together all xs ys → (v : ℕ) → among all v ≡ (among xs v || among ys v)
among_together all xs ys t v = same_bool (among all v) (among xs v || among ys v)
    (λ h. elim (either_way (among xs v)) as (λ _. (among xs v || among ys v) ≡ true) [
      | inl k ↦ or_left (among xs v) (among ys v) k
      | inr k ↦ or_right (among xs v) (among ys v) (counts_among v ys (omega (arith, among_counts v all h, t v, not_counted v xs k)))
    ])
    (λ h. elim (or_cases (among xs v) (among ys v) h) as (λ _. among all v ≡ true) [
      | inl k ↦ together_left all xs ys t v k
      | inr k ↦ together_left all ys xs (together_turned all xs ys t) v k
    ])

both_true : (b c : Bool) → (b && c) ≡ true → (b ≡ true) × (c ≡ true)
both_true true c h = (refl, h)
both_true false c h = clash h refl

module _ (total : ℕ → ℕ) (modes : ℕ → List ModeDecl) where
  -- an ordered goal of one that has these variables, and binds these
  pub record Fits (bound : Variables) (inside : List ℕ) (binding : Variables) (reach : Bool) (o : Ordered) : Type 0 where
    pub vars : (v : ℕ) → in_ordered o v ≡ among inside v
    pub within : (v : ℕ) → binding v ≡ true → among inside v ≡ true
    pub outs : (v : ℕ) → among (ordered_outputs o) v ≡ among (outputs total modes bound inside binding) v
    pub ended : ends modes o ≡ reach
    pub good : (out b : Variables) → Outer total out inside → ((v : ℕ) → among inside v ≡ true → bound v ≡ b v) → Good modes out b o

  pub record FitsList (bound : Variables) (inside : List ℕ) (binding : Variables) (reach : Bool) (os : Ordereds) : Type 0 where
    pub vars : (v : ℕ) → in_ordereds os v ≡ among inside v
    pub within : (v : ℕ) → binding v ≡ true → among inside v ≡ true
    pub ended : all_end modes os ≡ reach
    pub good : (out b : Variables) → Outer total out inside → ((v : ℕ) → among inside v ≡ true → bound v ≡ b v) → GoodList modes out b os
    pub behind : (out b : Variables) → Outer total out inside → (v : ℕ) → out v ≡ true → bound v ≡ b v → bound_behind b os v ≡ (bound v || binding v)

  -- behind one goal
  pub behind_one : (bound : Variables) (inside : List ℕ) (binding : Variables) (reach : Bool) (o : Ordered) → Fits bound inside binding reach o → (out b : Variables) → Outer total out inside
      → (v : ℕ) → out v ≡ true → bound v ≡ b v → (b v || among (ordered_outputs o) v) ≡ (bound v || binding v)
  behind_one bound inside binding reach o f out b u v i e = ap (λ (k : Bool). b v || k) (f.outs v) ∙ behind_node total modes bound out b inside binding u f.within v i e

  none_fits : (bound : Variables) → FitsList bound [] (λ v. false) true no_goals
  none_fits bound = record { vars = λ v. refl; within = λ v h. clash h refl; ended = refl; good = λ out b o e. tt; behind = λ out b o v i e. sym e ∙ right_false (bound v) } where
    right_false : (k : Bool) → k ≡ (k || false)
    right_false true = refl
    right_false false = refl

  more_fits : (bound next_bound : Variables) (all xs ys : List ℕ) (binding one rest : Variables) (reach r s : Bool) (o : Ordered) (os : Ordereds) → Together all xs ys → ((v : ℕ) → next_bound v ≡ (bound v || one v))
      → ((v : ℕ) → binding v ≡ (one v || rest v)) → reach ≡ (r && s) → Fits bound xs one r o → FitsList next_bound ys rest s os → FitsList bound all binding reach (more_goals o os)
  more_fits bound next_bound all xs ys binding one rest reach r s o os t n b c f fs =
      let together : (v : ℕ) → among all v ≡ (among xs v || among ys v) = among_together all xs ys t in
      let left : (v : ℕ) → among xs v ≡ true → among all v ≡ true = together_left all xs ys t in
      let right : (v : ℕ) → among ys v ≡ true → among all v ≡ true = together_left all ys xs (together_turned all xs ys t) in
      let outer_left : (out : Variables) → Outer total out all → Outer total (with out (in_ordereds os)) xs = λ out u. outer_part total out (in_ordereds os) all xs ys t fs.vars u in
      let outer_right : (out : Variables) → Outer total out all → Outer total (with out (in_ordered o)) ys = λ out u. outer_part total out (in_ordered o) all ys xs (together_turned all xs ys t) f.vars u in
      record {
        vars = λ v. or_same (in_ordered o v) (in_ordereds os v) (among xs v) (among ys v) (f.vars v) (fs.vars v) ∙ sym (together v);
        within = λ v h. elim (or_cases (one v) (rest v) (sym (b v) ∙ h)) as (λ _. among all v ≡ true) [ inl k ↦ left v (f.within v k) | inr k ↦ right v (fs.within v k) ];
        ended = and_same (ends modes o) (all_end modes os) r s f.ended fs.ended ∙ sym c;
        good = λ out b u e. (
          f.good (with out (in_ordereds os)) b (outer_left out u) (λ v h. e v (left v h)),
          fs.good (with out (in_ordered o)) (with b (among (ordered_outputs o))) (outer_right out u)
              (λ v h. n v ∙ sym (behind_one bound xs one r o f (with out (in_ordereds os)) b (outer_left out u) v (or_right (out v) (in_ordereds os v) (fs.vars v ∙ h)) (e v (right v h)))),
        );
        behind = λ out d u v i e.
            fs.behind (with out (in_ordered o)) (with d (among (ordered_outputs o))) (outer_right out u) v (or_left (out v) (in_ordered o v) i)
            (n v ∙ sym (behind_one bound xs one r o f (with out (in_ordereds os)) d (outer_left out u) v (or_left (out v) (in_ordereds os v) i) e))
            ∙ ap (λ (k : Bool). k || rest v) (n v) ∙ or_assoc (bound v) (one v) (rest v) ∙ ap (λ (k : Bool). bound v || k) (sym (b v));
      }

  -- Goals that hold no others bind all their variables.

  moved_to : (bound : Variables) (inside : List ℕ) (binding : Variables) (reach : Bool) (g o : Ordered) → Ready g ≡ Ready o → Fits bound inside binding reach g → Fits bound inside binding reach o
  moved_to bound inside binding reach g o e f = subst (λ (z : Ordered). Fits bound inside binding reach z) (ready_is g o e) f

  abbrev pub All : List ℕ → Variables
  All inside v = among inside v

  basic_fits : (at : Span) (bound : Variables) (inside : List ℕ) (s : Step) (reach : Bool) → ((v : ℕ) → in_step s v ≡ among inside v) → step_ends modes s ≡ reach
      → ((out b : Variables) → Outer total out inside → ((v : ℕ) → among inside v ≡ true → bound v ≡ b v) → GoodStep modes out b (outputs total modes bound inside (All inside)) s)
      → Fits bound inside (All inside) reach (put s (outputs total modes bound inside (All inside)) at)
  basic_fits at bound inside s reach i r g = record {
    vars = i;
    within = λ v h. h;
    outs = λ v. refl;
    ended = r;
    good = λ out b u e. (λ v h. i v ∙ outs_in total modes bound inside (All inside) v h, outs_free total modes bound b inside (All inside) e, g out b u e);
  }

  -- a goal of two
  two_bound : (P : ℕ → Type 0) (x y v : ℕ) → P x → P y → among (x ∷ y ∷ []) v ≡ true → P v
  two_bound P x y v p q h = elim (or_cases (v == x) (among (y ∷ []) v) h) as (λ _. P v) [
    | inl k ↦ subst (λ (z : ℕ). P z) (sym ((Decides-eqb v x).0 k)) p
    | inr k ↦ elim (or_cases (v == y) false k) as (λ _. P v) [ inl j ↦ subst (λ (z : ℕ). P z) (sym ((Decides-eqb v y).0 j)) q | inr j ↦ clash j refl ]
  ]

  first_in : (x : ℕ) (xs : List ℕ) → among (x ∷ xs) x ≡ true
  first_in x xs = or_left (x == x) (among xs x) ((Decides-eqb x x).1 refl)

  second_in : (x y : ℕ) (xs : List ℕ) → among (x ∷ y ∷ xs) y ≡ true
  second_in x y xs = or_right (y == x) (among (y ∷ xs) y) (first_in y xs)

  swap_two : (a b : Bool) → (a || (b || false)) ≡ (b || (a || false))
  swap_two true true = refl
  swap_two true false = refl
  swap_two false true = refl
  swap_two false false = refl

  same_fits : (bound : Variables) (one other : ℕ) (a b : Bool) (at : Span) (o : Ordered) → bound one ≡ a → bound other ≡ b
      → same_from total modes one other a b (outputs total modes bound (one ∷ other ∷ []) (All (one ∷ other ∷ []))) at ≡ Ready o → Fits bound (one ∷ other ∷ []) (All (one ∷ other ∷ [])) true o
  same_fits bound one other true true at o p q h =
      moved_to bound (one ∷ other ∷ []) (All (one ∷ other ∷ [])) true (put (Test one other) (outputs total modes bound (one ∷ other ∷ []) (All (one ∷ other ∷ []))) at) o h
      (basic_fits at bound (one ∷ other ∷ []) (Test one other) true (λ v. refl) refl (λ out b u e.
      let k1 : b one ≡ true = sym (e one (first_in one (other ∷ []))) ∙ p in
      let k2 : b other ≡ true = sym (e other (second_in one other [])) ∙ q in
      (k1, k2)))
  same_fits bound one other true false at o p q h =
      moved_to bound (one ∷ other ∷ []) (All (one ∷ other ∷ [])) true (put (Assign other one) (outputs total modes bound (one ∷ other ∷ []) (All (one ∷ other ∷ []))) at) o h
      (basic_fits at bound (one ∷ other ∷ []) (Assign other one) true (λ v. swap_two (v == other) (v == one)) refl (λ out b u e.
      let k1 : b one ≡ true = sym (e one (first_in one (other ∷ []))) ∙ p in
      let k2 : b other ≡ false = sym (e other (second_in one other [])) ∙ q in (
        k1,
        k2,
        λ v i. binds_all total modes bound out b (with b (among (other ∷ []))) (one ∷ other ∷ []) u e
            (λ v i. two_bound (λ z. with b (among (other ∷ [])) z ≡ true) one other v (or_left (b one) (among (other ∷ []) one) k1) (or_right (b other) (among (other ∷ []) other) (first_in other [])) i) v (swap_two (v == one) (v == other) ∙ i),
      )))
  same_fits bound one other false true at o p q h =
      moved_to bound (one ∷ other ∷ []) (All (one ∷ other ∷ [])) true (put (Assign one other) (outputs total modes bound (one ∷ other ∷ []) (All (one ∷ other ∷ []))) at) o h
      (basic_fits at bound (one ∷ other ∷ []) (Assign one other) true (λ v. refl) refl (λ out b u e.
      let k1 : b one ≡ false = sym (e one (first_in one (other ∷ []))) ∙ p in
      let k2 : b other ≡ true = sym (e other (second_in one other [])) ∙ q in (
        k2,
        k1,
        binds_all total modes bound out b (with b (among (one ∷ []))) (one ∷ other ∷ []) u e
            (λ v i. two_bound (λ z. with b (among (one ∷ [])) z ≡ true) one other v (or_right (b one) (among (one ∷ []) one) (first_in one [])) (or_left (b other) (among (one ∷ []) other) k2) i),
      )))
  same_fits bound one other false false at o p q h = stuck_not (never_ready at) o h

  -- all of these are binding, or written
  group_bound : (bound b : Variables) (ys news : List ℕ) → ((v : ℕ) → (bound v || among news v) ≡ (bound v || among ys v)) → ((v : ℕ) → among ys v ≡ true → bound v ≡ b v) → (v : ℕ) → among ys v ≡ true → with b (among news) v ≡ true
  group_bound bound b ys news f e v h = ap (λ (k : Bool). k || among news v) (sym (e v h)) ∙ f v ∙ or_right (bound v) (among ys v) h

  still_free : (bound b : Variables) (ys : List ℕ) → ((v : ℕ) → among ys v ≡ true → bound v ≡ b v) → (v : ℕ) → among ys v ≡ true → bound v ≡ false → b v ≡ false
  still_free bound b ys e v h k = sym (e v h) ∙ k

  split_good : (bound : Variables) (x : ℕ) (c : Symbol) (ys : List ℕ) → bound x ≡ true → (out b : Variables) → Outer total out (x ∷ ys) → ((v : ℕ) → among (x ∷ ys) v ≡ true → bound v ≡ b v)
      → GoodStep modes out b (outputs total modes bound (x ∷ ys) (All (x ∷ ys))) (Split x c ys (tested bound ys))
  split_good bound x c ys k out b u e =
      let bx : b x ≡ true = sym (e x (first_in x ys)) ∙ k in
      let e' : (v : ℕ) → among ys v ≡ true → bound v ≡ b v = λ v h. e v (or_right (v == x) (among ys v) h) in
      let g : (v : ℕ) → among ys v ≡ true → with b (among (untested_places ys (tested bound ys))) v ≡ true = group_bound bound b ys (untested_places ys (tested bound ys)) (λ v. tested_all ys bound v) e' in (
        bx,
        (
          tested_free ys bound b (still_free bound b ys e'),
          places_bound (with b (among (untested_places ys (tested bound ys)))) ys (tested bound ys) g,
          binds_all total modes bound out b (with b (among (untested_places ys (tested bound ys)))) (x ∷ ys) u e (λ v h. elim (or_cases (v == x) (among ys v) h) as (λ _. with b (among (untested_places ys (tested bound ys))) v ≡ true) [
            | inl j ↦ or_left (b v) (among (untested_places ys (tested bound ys)) v) (subst (λ (z : ℕ). b z ≡ true) (sym ((Decides-eqb v x).0 j)) bx)
            | inr j ↦ g v j
          ]),
        ),
      )

  build_good : (bound : Variables) (x : ℕ) (c : Symbol) (ys : List ℕ) → bound x ≡ false → are_bound bound ys ≡ true → (out b : Variables) → Outer total out (x ∷ ys) → ((v : ℕ) → among (x ∷ ys) v ≡ true → bound v ≡ b v)
      → GoodStep modes out b (outputs total modes bound (x ∷ ys) (All (x ∷ ys))) (Build x c ys)
  build_good bound x c ys k l out b u e =
      let e' : (v : ℕ) → among ys v ≡ true → bound v ≡ b v = λ v h. e v (or_right (v == x) (among ys v) h) in (
        all_bound bound b ys l e',
        sym (e x (first_in x ys)) ∙ k,
        binds_all total modes bound out b (with b (among (x ∷ []))) (x ∷ ys) u e (λ v h. elim (or_cases (v == x) (among ys v) h) as (λ _. with b (among (x ∷ [])) v ≡ true) [
          | inl j ↦ or_right (b v) (among (x ∷ []) v) (or_left (v == x) false j)
          | inr j ↦ or_left (b v) (among (x ∷ []) v) (sym (e' v j) ∙ bound_in bound ys l v j)
        ]),
      )

  compute_good : (bound : Variables) (op : Operation) (z x y : ℕ) → bound x ≡ true → bound y ≡ true → (out b : Variables) → Outer total out (z ∷ x ∷ y ∷ []) → ((v : ℕ) → among (z ∷ x ∷ y ∷ []) v ≡ true → bound v ≡ b v)
      → GoodStep modes out b (outputs total modes bound (z ∷ x ∷ y ∷ []) (All (z ∷ x ∷ y ∷ []))) (Computed op z x y (tested bound (z ∷ [])))
  compute_good bound op z x y k l out b u e =
      let bx : b x ≡ true = sym (e x (second_in z x (y ∷ []))) ∙ k in
      let by : b y ≡ true = sym (e y (or_right (y == z) (among (x ∷ y ∷ []) y) (second_in x y []))) ∙ l in
      let e' : (v : ℕ) → among (z ∷ []) v ≡ true → bound v ≡ b v = λ v h. elim (or_cases (v == z) false h) as (λ _. bound v ≡ b v) [ inl j ↦ e v (or_left (v == z) (among (x ∷ y ∷ []) v) j) | inr j ↦ clash j refl ] in
      let g : (v : ℕ) → among (z ∷ []) v ≡ true → with b (among (untested_places (z ∷ []) (tested bound (z ∷ [])))) v ≡ true = group_bound bound b (z ∷ []) (untested_places (z ∷ []) (tested bound (z ∷ []))) (λ v. tested_all (z ∷ []) bound v) e' in (
        bx,
        by,
        (
          tested_free (z ∷ []) bound b (still_free bound b (z ∷ []) e'),
          places_bound (with b (among (untested_places (z ∷ []) (tested bound (z ∷ []))))) (z ∷ []) (tested bound (z ∷ [])) g,
          binds_all total modes bound out b (with b (among (untested_places (z ∷ []) (tested bound (z ∷ []))))) (z ∷ x ∷ y ∷ []) u e (λ v h. elim (or_cases (v == z) (among (x ∷ y ∷ []) v) h) as (λ _. with b (among (untested_places (z ∷ []) (tested bound (z ∷ [])))) v ≡ true) [
            | inl j ↦ g v (or_left (v == z) false j)
            | inr j ↦ or_left (b v) (among (untested_places (z ∷ []) (tested bound (z ∷ []))) v) (two_bound (λ w. b w ≡ true) x y v bx by j)
          ]),
        ),
      )

  call_good : (bound : Variables) (args : List ℕ) (m : ModeDecl) (o : Option ModeDecl) → o ≡ Some m → are_bound bound (inputs_of m.args args) ≡ true → length m.args ≡ length args → (out b : Variables) → Outer total out args
      → ((v : ℕ) → among args v ≡ true → bound v ≡ b v) → GoodCall out b (outputs total modes bound args (All args)) o args (call_tested bound m.args args)
  call_good bound args m o is_some k l out b u e =
      let g : (v : ℕ) → among args v ≡ true → with b (among (written m.args args (call_tested bound m.args args))) v ≡ true =
      group_bound bound b args (written m.args args (call_tested bound m.args args)) (λ v. written_all m.args args bound v (same_length m.args args l) (λ x h. bound_in bound (inputs_of m.args args) k x h)) e in
      subst (λ (z : Option ModeDecl). GoodCall out b (outputs total modes bound args (All args)) z args (call_tested bound m.args args)) (sym is_some) (
        call_fits_places m.args args bound (same_length m.args args l),
        all_bound bound b (inputs_of m.args args) k (λ v h. e v (inputs_in m.args args v h)),
        (
          written_free m.args args bound b (still_free bound b args e),
          places_bound (with b (among (written m.args args (call_tested bound m.args args)))) args (call_tested bound m.args args) g,
          binds_all total modes bound out b (with b (among (written m.args args (call_tested bound m.args args)))) args u e g,
        ),
      )

  shape_fits : (bound : Variables) (x : ℕ) (c : Symbol) (ys : List ℕ) (at : Span) (o : Ordered) → simple_from total modes (Shape x c ys) (outputs total modes bound (x ∷ ys) (All (x ∷ ys))) at bound ≡ Ready o → Fits bound (x ∷ ys) (All (x ∷ ys)) true o
  shape_fits bound x c ys at o h =
      elim (chosen (bound x) (Ready (put (Split x c ys (tested bound ys)) (outputs total modes bound (x ∷ ys) (All (x ∷ ys))) at)) (if are_bound bound ys then Ready (put (Build x c ys) (outputs total modes bound (x ∷ ys) (All (x ∷ ys))) at) else Stuck (never_ready at)) (Ready o) h) as (λ _. Fits bound (x ∷ ys) (All (x ∷ ys)) true o) [
        | inl k ↦ moved_to bound (x ∷ ys) (All (x ∷ ys)) true (put (Split x c ys (tested bound ys)) (outputs total modes bound (x ∷ ys) (All (x ∷ ys))) at) o k.1
            (basic_fits at bound (x ∷ ys) (Split x c ys (tested bound ys)) true (λ v. refl) refl (split_good bound x c ys k.0))
        | inr k ↦
            let q = if_is (are_bound bound ys) (put (Build x c ys) (outputs total modes bound (x ∷ ys) (All (x ∷ ys))) at) o (never_ready at) k.1 in
            subst (λ (z : Ordered). Fits bound (x ∷ ys) (All (x ∷ ys)) true z) q.1
            (basic_fits at bound (x ∷ ys) (Build x c ys) true (λ v. refl) refl (build_good bound x c ys k.0 q.0))
      ]

  call_fits : (bound : Variables) (p : ℕ) (args : List ℕ) (at : Span) (t : Option (ℕ × ModeDecl)) (o : Ordered) → AllByRecursion (λ m. length m.args ≡ length args) (modes p) → taken_from 0 bound args (modes p) ≡ t
      → called_from total modes bound p args t (outputs total modes bound args (All args)) at ≡ Ready o → Fits bound args (All args) (can_succeed (modes p)) o
  call_fits bound p args at None o l q h = stuck_not (never_ready at) o h
  call_fits bound p args at (Some t) o l q h =
      let k = taken_takes (modes p) 0 bound args (λ m. length m.args ≡ length args) l t q in
      moved_to bound args (All args) (can_succeed (modes p)) (put (Called p t.0 args (call_tested bound t.1.args args)) (outputs total modes bound args (All args)) at) o h
      (basic_fits at bound args (Called p t.0 args (call_tested bound t.1.args args)) (can_succeed (modes p)) (λ v. refl) refl
      (call_good bound args t.1 (slice_get (modes p) t.0) (ap (λ (z : ℕ). slice_get (modes p) z) (k.number_is ∙ omega (arith)) ∙ k.is_mode) k.inputs_bound k.has_all))

  asked_fits : (bound : Variables) (inside : List ℕ) (reach b : Bool) (s : Step) (o : Ordered) (at : Span) → (if b then Ready (put s (outputs total modes bound inside (All inside)) at) else Stuck (never_ready at)) ≡ Ready o
      → (b ≡ true → Fits bound inside (All inside) reach (put s (outputs total modes bound inside (All inside)) at)) → Fits bound inside (All inside) reach o
  asked_fits bound inside reach b s o at h f =
      let q = if_is b (put s (outputs total modes bound inside (All inside)) at) o (never_ready at) h in
      subst (λ (z : Ordered). Fits bound inside (All inside) reach z) q.1 (f q.0)

  simple_fits : (g : SimpleGoal) (at : Span) (bound : Variables) (o : Ordered) → Sized modes (Simple g at) → from total modes (Simple g at) bound ≡ Ready o → Fits bound (variables_of g) (All (variables_of g)) (reached total modes (Simple g at)) o
  simple_fits True at bound o l h = moved_to bound [] (All []) true (put Truth [] at) o h (basic_fits at bound [] Truth true (λ v. refl) refl (λ out b u e. tt))
  simple_fits Fail at bound o l h = moved_to bound [] (All []) false (put Failure [] at) o h (basic_fits at bound [] Failure false (λ v. refl) refl (λ out b u e. tt))
  simple_fits (Same one other) at bound o l h = same_fits bound one other (bound one) (bound other) at o refl refl h
  simple_fits (Shape x c ys) at bound o l h = shape_fits bound x c ys at o h
  simple_fits (Arithmetic op z x y) at bound o l h =
      asked_fits bound (z ∷ x ∷ y ∷ []) true (bound x && bound y) (Computed op z x y (tested bound (z ∷ []))) o at h
      (λ k. basic_fits at bound (z ∷ x ∷ y ∷ []) (Computed op z x y (tested bound (z ∷ []))) true (λ v. refl) refl (compute_good bound op z x y (and_left (bound x) (bound y) k) (and_right (bound x) (bound y) k)))
  simple_fits (Compare op x y) at bound o l h =
      asked_fits bound (x ∷ y ∷ []) true (bound x && bound y) (Compared op x y) o at h
      (λ k. basic_fits at bound (x ∷ y ∷ []) (Compared op x y) true (λ v. refl) refl (λ out b u e.
      let k1 : b x ≡ true = sym (e x (first_in x (y ∷ []))) ∙ and_left (bound x) (bound y) k in
      let k2 : b y ≡ true = sym (e y (second_in x y [])) ∙ and_right (bound x) (bound y) k in
      (k1, k2)))
  simple_fits (Raise x) at bound o l h =
      asked_fits bound (x ∷ []) false (bound x) (Raised x) o at h
      (λ k. basic_fits at bound (x ∷ []) (Raised x) false (λ v. refl) refl (λ out b u e. sym (e x (first_in x [])) ∙ k))
  simple_fits (Call p args) at bound o l h = call_fits bound p args at (taken_from 0 bound args (modes p)) o l refl h

  -- Goals that hold others.

  list_goal : (at : Span) (bound : Variables) (inside : List ℕ) (binding : Variables) (reach : Bool) (os : Ordereds) (s : Step) → FitsList bound inside binding reach os → ((v : ℕ) → in_step s v ≡ in_ordereds os v) → step_ends modes s ≡ all_end modes os
      → ((out b : Variables) → GoodList modes out b os × Binds out (in_ordereds os) b (outputs total modes bound inside binding) (bound_behind b os) → GoodStep modes out b (outputs total modes bound inside binding) s)
      → Fits bound inside binding reach (put s (outputs total modes bound inside binding) at)
  list_goal at bound inside binding reach os s f i r g = record {
    vars = λ v. i v ∙ f.vars v;
    within = f.within;
    outs = λ v. refl;
    ended = r ∙ f.ended;
    good = λ out b u e. (
      λ v h. i v ∙ f.vars v ∙ outs_in total modes bound inside binding v h,
      outs_free total modes bound b inside binding e,
      g out b (f.good out b u e, λ v h w. f.behind out b u v w (e v (sym (f.vars v) ∙ h)) ∙ sym (behind_node total modes bound out b inside binding u f.within v w (e v (sym (f.vars v) ∙ h)))),
    );
  }

  -- of a goal that binds nothing outside it
  pub list_all_in : (p : ℕ → Bool) (xs : List ℕ) (v : ℕ) → list_all p xs ≡ true → among xs v ≡ true → p v ≡ true
  list_all_in p [] v h k = clash k refl
  list_all_in p (x ∷ xs) v h k = elim (or_cases (v == x) (among xs v) k) as (λ _. p v ≡ true) [
    | inl j ↦ subst (λ (z : ℕ). p z ≡ true) (sym ((Decides-eqb v x).0 j)) (and_left (p x) (list_all p xs) h)
    | inr j ↦ list_all_in p xs v (and_right (p x) (list_all p xs) h) j
  ]

  inside_case : {A : Type 0} (k bd o : Bool) → ((k || not bd) || not o) ≡ true → bd ≡ true → not k ≡ true → o ≡ true → A
  inside_case true bd o h p q r = clash q refl
  inside_case false true true h p q r = clash h refl
  inside_case false true false h p q r = clash r refl
  inside_case false false o h p q r = clash p refl

  no_outs : (bound : Variables) (inside all xs : List ℕ) (binding : Variables) (reach : Bool) (o : Ordered) → Fits bound xs binding reach o → binds_inside total modes bound inside all binding ≡ true → ((v : ℕ) → among xs v ≡ true → among all v ≡ true)
      → (v : ℕ) → (among xs v ≡ true → outside total modes xs v ≡ true → outside total modes inside v ≡ true) → among (ordered_outputs o) v ≡ false
  no_outs bound inside all xs binding reach o f h w v i = not_true (among (ordered_outputs o) v) (λ k.
      let q : (among xs v && (binding v && (not (bound v) && outside total modes xs v))) ≡ true = sym (among_outputs total modes bound xs binding v) ∙ sym (f.outs v) ∙ k in
      let q1 : among xs v ≡ true = and_left (among xs v) (binding v && (not (bound v) && outside total modes xs v)) q in
      let q2 : (binding v && (not (bound v) && outside total modes xs v)) ≡ true = and_right (among xs v) (binding v && (not (bound v) && outside total modes xs v)) q in
      let q3 : (not (bound v) && outside total modes xs v) ≡ true = and_right (binding v) (not (bound v) && outside total modes xs v) q2 in
      inside_case (bound v) (binding v) (outside total modes inside v)
      (list_all_in (λ z. bound z || not (binding z) || not (outside total modes inside z)) all v h (w v q1))
      (and_left (binding v) (not (bound v) && outside total modes xs v) q2) (and_left (not (bound v)) (outside total modes xs v) q3) (i q1 (and_right (not (bound v)) (outside total modes xs v) q3)))

  right_false : (k : Bool) → k ≡ (k || false)
  right_false true = refl
  right_false false = refl

  none_bound : (bound : Variables) (inside : List ℕ) (v : ℕ) → among [] v ≡ among (outputs total modes bound inside (λ v. false)) v
  none_bound bound inside v = sym (among_outputs total modes bound inside (λ v. false) v ∙ nothing (among inside v)) where
    nothing : (k : Bool) → (k && false) ≡ false
    nothing true = refl
    nothing false = refl

  denial_fits : (at : Span) (bound : Variables) (inside : List ℕ) (binding : Variables) (reach : Bool) (o : Ordered) → Fits bound inside binding reach o → binds_inside total modes bound inside inside binding ≡ true → Fits bound inside (λ v. false) true (put (Denial o) [] at)
  denial_fits at bound inside binding reach o f h = record {
    vars = f.vars;
    within = λ v k. clash k refl;
    outs = λ v. none_bound bound inside v;
    ended = refl;
    good = λ out b u e. (λ v k. clash k refl, tt, (f.good out b u e, λ v i. no_outs bound inside inside inside binding reach o f h (λ v k. k) v (λ j k. k), λ v i w. right_false (b v)));
  }

  within_case : (h o k bd : Bool) → h ≡ true → o ≡ true → (k || bd) ≡ (k || ((h && o) && bd))
  within_case h o k bd p q = cc

  inside_fits : (at : Span) (own : List ℕ) (bound : Variables) (inside : List ℕ) (binding : Variables) (reach : Bool) (o : Ordered) → Fits bound inside binding reach o
      → Fits bound inside (λ v. shared total modes inside v && binding v) reach (put (Inside own o) (outputs total modes bound inside (λ v. shared total modes inside v && binding v)) at)
  inside_fits at own bound inside binding reach o f =
      let w : (v : ℕ) → (shared total modes inside v && binding v) ≡ true → among inside v ≡ true = λ v h. and_left (among inside v) (outside total modes inside v) (and_left (shared total modes inside v) (binding v) h) in
      record {
        vars = f.vars;
        within = w;
        outs = λ v. refl;
        ended = f.ended;
        good = λ out b u e. (
          λ v h. f.vars v ∙ outs_in total modes bound inside (λ v. shared total modes inside v && binding v) v h,
          outs_free total modes bound b inside (λ v. shared total modes inside v && binding v) e,
          (
            f.good out b u e,
            λ v h i.
                let j : among inside v ≡ true = sym (f.vars v) ∙ h in
                behind_one bound inside binding reach o f out b u v i (e v j) ∙ within_case (among inside v) (outside total modes inside v) (bound v) (binding v) j (sym (u.0 v j) ∙ i)
                ∙ sym (behind_node total modes bound out b inside (λ v. shared total modes inside v && binding v) u w v i (e v j)),
          ),
        );
      }

  -- Arms.

  pub data Member (a : Arm) : List Arm → Type 0 where
    at_head : (al : List Arm) → Member a (a ∷ al)
    in_tail : (c : Arm) (al : List Arm) → Member a al → Member a (c ∷ al)

  member_any : (p : Arm → Bool) (a : Arm) (al : List Arm) → Member a al → p a ≡ true → list_any p al ≡ true
  member_any p a al (at_head bs) h = or_left (p a) (list_any p bs) h
  member_any p a al (in_tail c bs m) h = or_right (p c) (list_any p bs) (member_any p a bs m h)

  member_all : (p : Arm → Bool) (a : Arm) (al : List Arm) → Member a al → list_all p al ≡ true → p a ≡ true
  member_all p a al (at_head bs) h = and_left (p a) (list_all p bs) h
  member_all p a al (in_tail c bs m) h = member_all p a bs m (and_right (p c) (list_all p bs) h)

  head_filter : (b : Bool) (a : Arm) (al : List Arm) → b ≡ true → Member a (if b then a ∷ al else al)
  head_filter true a al h = at_head al
  head_filter false a al h = clash h refl

  tail_filter : (b : Bool) (a c : Arm) (al : List Arm) → Member a al → Member a (if b then c ∷ al else al)
  tail_filter true a c al m = in_tail c al m
  tail_filter false a c al m = m

  member_filter : (a : Arm) (al : List Arm) → Member a al → a.reached ≡ true → Member a (filter (λ arm. arm.reached) al)
  member_filter a al (at_head bs) h = head_filter a.reached a (filter (λ arm. arm.reached) bs) h
  member_filter a al (in_tail c bs m) h = tail_filter c.reached a c (filter (λ arm. arm.reached) bs) (member_filter a bs m h)

  either_list : (b : Bool) (a : Arm) (al bs : List Arm) → Member a al → Member a bs → Member a (if b then al else bs)
  either_list true a al bs m n = m
  either_list false a al bs m n = n

  member_counting : (a : Arm) (al : List Arm) → Member a al → a.reached ≡ true → Member a (counting al)
  member_counting a al m h = either_list (any_reached al) a (filter (λ arm. arm.reached) al) al (member_filter a al m h) m

  arms_case : (k any x y fa o h : Bool) → ((k || not ((any && x) && not y)) || not o) ≡ true → any ≡ true → h ≡ true → o ≡ true → (fa ≡ true → x ≡ true) → (y ≡ true → fa ≡ true) → (k || fa) ≡ (k || ((h && o) && (if any then x else y)))
  arms_case true any x y fa o h p q r s f g = refl
  arms_case false any x y true o h p q r s f g = let i : x ≡ true = f refl in cc
  arms_case false any true true false o h p q r s f g = clash (g refl) refl
  arms_case false any true false false o h p q r s f g = absurd cc
  arms_case false any false y false o h p q r s f g = cc

  -- an arm that can be reached binds what all bind, of what occurs outside
  arms_same : (bound : Variables) (inside : List ℕ) (al : List Arm) → agree total modes bound inside al ≡ true → (a : Arm) → Member a al → a.reached ≡ true → (v : ℕ) → among inside v ≡ true → outside total modes inside v ≡ true
      → (bound v || a.binds v) ≡ (bound v || (shared total modes inside v && arms_bind al v))
  arms_same bound inside al g a m r v i o =
      arms_case (bound v) (any_reached al) (list_any (λ arm. arm.binds v) (counting al)) (all_bind al v) (a.binds v) (outside total modes inside v) (among inside v)
      (list_all_in (λ z. bound z || not (differ_on al z) || not (outside total modes inside z)) inside v g i)
      (member_any (λ arm. arm.reached) a al m r) i o
      (λ h. member_any (λ arm. arm.binds v) a (counting al) (member_counting a al m r) h)
      (λ h. member_all (λ arm. arm.binds v) a (counting al) (member_counting a al m r) h)

  abbrev pub ArmsAgree : Variables → Variables → Variables → Variables → List ℕ → List Arm → Type 0
  ArmsAgree bound out whole b outs al = (a : Arm) → Member a al → a.reached ≡ true → (v : ℕ) → whole v ≡ true → out v ≡ true → (bound v || a.binds v) ≡ (b v || among outs v)

  pub record FitsEach (bound : Variables) (inside : List ℕ) (reach : Bool) (al : List Arm) (os : Ordereds) : Type 0 where
    pub vars : (v : ℕ) → in_ordereds os v ≡ among inside v
    pub ended : some_ends modes os ≡ reach
    pub good : (out b : Variables) → Outer total out inside → ((v : ℕ) → among inside v ≡ true → bound v ≡ b v) → GoodEach modes out b os
    pub binding : (out outer whole b : Variables) (outs : List ℕ) → Outer total out inside → ((v : ℕ) → outer v ≡ true → out v ≡ true) → ((v : ℕ) → whole v ≡ true → bound v ≡ b v) → ArmsAgree bound outer whole b outs al → EachBinds modes outer whole b outs os

  none_each : (bound : Variables) → FitsEach bound [] false [] no_goals
  none_each bound = record { vars = λ v. refl; ended = refl; good = λ out b u e. tt; binding = λ out outer whole b outs u w e h. tt }

  more_each : (bound : Variables) (xs ys : List ℕ) (r s : Bool) (binding : Variables) (al : List Arm) (o : Ordered) (os : Ordereds) → Fits bound xs binding r o → FitsEach bound ys s al os
      → FitsEach bound (xs ++ ys) (r || s) (record { binds = binding; reached = r } ∷ al) (more_goals o os)
  more_each bound xs ys r s binding al o os f fs =
      let t : Together (xs ++ ys) xs ys = λ v. count_append v xs ys in
      let left : (v : ℕ) → among xs v ≡ true → among (xs ++ ys) v ≡ true = together_left (xs ++ ys) xs ys t in
      let right : (v : ℕ) → among ys v ≡ true → among (xs ++ ys) v ≡ true = together_left (xs ++ ys) ys xs (together_turned (xs ++ ys) xs ys t) in
      let outer_left : (out : Variables) → Outer total out (xs ++ ys) → Outer total (with out (in_ordereds os)) xs = λ out u. outer_part total out (in_ordereds os) (xs ++ ys) xs ys t fs.vars u in
      let outer_right : (out : Variables) → Outer total out (xs ++ ys) → Outer total (with out (in_ordered o)) ys = λ out u. outer_part total out (in_ordered o) (xs ++ ys) ys xs (together_turned (xs ++ ys) xs ys t) f.vars u in
      let one : Arm = record { binds = binding; reached = r } in
      record {
        vars = λ v. or_same (in_ordered o v) (in_ordereds os v) (among xs v) (among ys v) (f.vars v) (fs.vars v) ∙ sym (among_append v xs ys);
        ended = or_same (ends modes o) (some_ends modes os) r s f.ended fs.ended;
        good = λ out b u e. (
          fewer modes o out (with out (in_ordereds os)) b (λ v h. or_left (out v) (in_ordereds os v) h) (f.good (with out (in_ordereds os)) b (outer_left out u) (λ v h. e v (left v h))),
          fewer_each modes os out (with out (in_ordered o)) b (λ v h. or_left (out v) (in_ordered o v) h) (fs.good (with out (in_ordered o)) b (outer_right out u) (λ v h. e v (right v h))),
        );
        binding = λ out outer whole b outs u w e h. (
          elim (either_way (ends modes o)) as (λ _. (ends modes o ≡ false) ⊎ Binds outer whole b outs (with b (among (ordered_outputs o)))) [
            | inl k ↦ inr (λ v i j. sym (sym (h (record { binds = binding; reached = r }) (at_head al) (sym f.ended ∙ k) v i j)
                ∙ sym (behind_one bound xs binding r o f (with out (in_ordereds os)) b (outer_left out u) v (or_left (out v) (in_ordereds os v) (w v j)) (e v i))))
            | inr k ↦ inl k
          ],
          fs.binding (with out (in_ordered o)) outer whole b outs (outer_right out u) (λ v j. or_left (out v) (in_ordered o v) (w v j)) e (λ a m. h a (in_tail (record { binds = binding; reached = r }) al m)),
        );
      }

  choice_fits : (at : Span) (bound : Variables) (inside : List ℕ) (reach : Bool) (al : List Arm) (os : Ordereds) → FitsEach bound inside reach al os → agree total modes bound inside al ≡ true
      → Fits bound inside (λ v. shared total modes inside v && arms_bind al v) reach (put (Choice os) (outputs total modes bound inside (λ v. shared total modes inside v && arms_bind al v)) at)
  choice_fits at bound inside reach al os f g =
      let w : (v : ℕ) → (shared total modes inside v && arms_bind al v) ≡ true → among inside v ≡ true = λ v h. and_left (among inside v) (outside total modes inside v) (and_left (shared total modes inside v) (arms_bind al v) h) in
      record {
        vars = f.vars;
        within = w;
        outs = λ v. refl;
        ended = f.ended;
        good = λ out b u e. (
          λ v h. f.vars v ∙ outs_in total modes bound inside (λ v. shared total modes inside v && arms_bind al v) v h,
          outs_free total modes bound b inside (λ v. shared total modes inside v && arms_bind al v) e,
          (
            f.good out b u e,
            f.binding out out (in_ordereds os) b (outputs total modes bound inside (λ v. shared total modes inside v && arms_bind al v)) u (λ v h. h) (λ v h. e v (sym (f.vars v) ∙ h)) (λ a m r v h i.
                let j : among inside v ≡ true = sym (f.vars v) ∙ h in
                arms_same bound inside al g a m r v j (sym (u.0 v j) ∙ i) ∙ sym (behind_node total modes bound out b inside (λ v. shared total modes inside v && arms_bind al v) u w v i (e v j))),
          ),
        );
      }

  -- If-then-else.
  decision_fits : (bound : Variables) (c t r : Node) (at : Span) (oc ot oe : Ordered)
      → Fits bound (variables c) (binds total modes c) (reached total modes c) oc → Fits (with bound (binds total modes c)) (variables t) (binds total modes t) (reached total modes t) ot → Fits bound (variables r) (binds total modes r) (reached total modes r) oe
      → binds_inside total modes bound (variables c ++ variables t) (variables c) (binds total modes c) ≡ true → agree total modes bound (variables (Conditional c t r at)) (decision_arms total modes c t r) ≡ true
      → Fits bound (variables (Conditional c t r at)) (binds total modes (Conditional c t r at)) (reached total modes (Conditional c t r at))
      (put (Decision oc ot oe) (outputs total modes bound (variables (Conditional c t r at)) (binds total modes (Conditional c t r at))) at)
  decision_fits bound c t r at oc ot oe fc ft fe q g =
      let all : List ℕ = variables c ++ (variables t ++ variables r) in
      let g_ct : Together all (variables c ++ variables t) (variables r) = λ v. omega (arith, count_append v (variables c) (variables t ++ variables r), count_append v (variables t) (variables r), count_append v (variables c) (variables t)) in
      let g_c : Together all (variables c) (variables t ++ variables r) = λ v. count_append v (variables c) (variables t ++ variables r) in
      let g_t : Together all (variables t) (variables c ++ variables r) = λ v. omega (arith, count_append v (variables c) (variables t ++ variables r), count_append v (variables t) (variables r), count_append v (variables c) (variables r)) in
      let in_c : (v : ℕ) → among (variables c) v ≡ true → among all v ≡ true = together_left all (variables c) (variables t ++ variables r) g_c in
      let in_t : (v : ℕ) → among (variables t) v ≡ true → among all v ≡ true = together_left all (variables t) (variables c ++ variables r) g_t in
      let in_e : (v : ℕ) → among (variables r) v ≡ true → among all v ≡ true = together_left all (variables r) (variables c ++ variables t) (together_turned all (variables c ++ variables t) (variables r) g_ct) in
      let w : (v : ℕ) → binds total modes (Conditional c t r at) v ≡ true → among (variables (Conditional c t r at)) v ≡ true =
      λ v h. and_left (among all v) (outside total modes all v) (and_left (shared total modes all v) (arms_bind (decision_arms total modes c t r) v) h) in
      let vars : (v : ℕ) → in_step (Decision oc ot oe) v ≡ among all v =
      λ v. or_same (in_ordered oc v) (in_ordered ot v || in_ordered oe v) (among (variables c) v) (among (variables t) v || among (variables r) v) (fc.vars v) (or_same (in_ordered ot v) (in_ordered oe v) (among (variables t) v) (among (variables r) v) (ft.vars v) (fe.vars v))
      ∙ sym (among_append v (variables c) (variables t ++ variables r) ∙ ap (λ (k : Bool). among (variables c) v || k) (among_append v (variables t) (variables r))) in
      let u_c : (out : Variables) → Outer total out all → Outer total (with out (with (in_ordered ot) (in_ordered oe))) (variables c) =
      λ out u. outer_part total out (with (in_ordered ot) (in_ordered oe)) all (variables c) (variables t ++ variables r) g_c
      (λ v. or_same (in_ordered ot v) (in_ordered oe v) (among (variables t) v) (among (variables r) v) (ft.vars v) (fe.vars v) ∙ sym (among_append v (variables t) (variables r))) u in
      let u_t : (out : Variables) → Outer total out all → Outer total (with out (with (in_ordered oc) (in_ordered oe))) (variables t) =
      λ out u. outer_part total out (with (in_ordered oc) (in_ordered oe)) all (variables t) (variables c ++ variables r) g_t
      (λ v. or_same (in_ordered oc v) (in_ordered oe v) (among (variables c) v) (among (variables r) v) (fc.vars v) (fe.vars v) ∙ sym (among_append v (variables c) (variables r))) u in
      let u_e : (out : Variables) → Outer total out all → Outer total (with out (with (in_ordered oc) (in_ordered ot))) (variables r) =
      λ out u. outer_part total out (with (in_ordered oc) (in_ordered ot)) all (variables r) (variables c ++ variables t) (together_turned all (variables c ++ variables t) (variables r) g_ct)
      (λ v. or_same (in_ordered oc v) (in_ordered ot v) (among (variables c) v) (among (variables t) v) (fc.vars v) (ft.vars v) ∙ sym (among_append v (variables c) (variables t))) u in
      let u_ct : (out : Variables) → Outer total out all → Outer total (with out (in_ordered oe)) (variables c ++ variables t) =
      λ out u. outer_part total out (in_ordered oe) all (variables c ++ variables t) (variables r) g_ct fe.vars u in
      let node_is : (out b : Variables) → Outer total out all → (v : ℕ) → out v ≡ true → bound v ≡ b v → (b v || among (outputs total modes bound all (binds total modes (Conditional c t r at))) v) ≡ (bound v || binds total modes (Conditional c t r at) v) =
      λ out b u v i e. behind_node total modes bound out b all (binds total modes (Conditional c t r at)) u w v i e in
      let then_bound : (out b : Variables) → Outer total out all → (v : ℕ) → with out (with (in_ordered ot) (in_ordered oe)) v ≡ true → bound v ≡ b v → with bound (binds total modes c) v ≡ with b (among (ordered_outputs oc)) v =
      λ out b u v i e. sym (behind_one bound (variables c) (binds total modes c) (reached total modes c) oc fc (with out (with (in_ordered ot) (in_ordered oe))) b (u_c out u) v i e) in
      record {
        vars = vars;
        within = w;
        outs = λ v. refl;
        ended = or_same (ends modes oc && ends modes ot) (ends modes oe) (reached total modes c && reached total modes t) (reached total modes r) (and_same (ends modes oc) (ends modes ot) (reached total modes c) (reached total modes t) fc.ended ft.ended) fe.ended;
        good = λ out b u e. (
          λ v h. vars v ∙ outs_in total modes bound all (binds total modes (Conditional c t r at)) v h,
          outs_free total modes bound b all (binds total modes (Conditional c t r at)) e,
          (
            fc.good (with out (with (in_ordered ot) (in_ordered oe))) b (u_c out u) (λ v h. e v (in_c v h)),
            λ v i. no_outs bound (variables c ++ variables t) (variables c) (variables c) (binds total modes c) (reached total modes c) oc fc q (λ v k. k) v
                (λ j k. sym ((u_ct out u).0 v (among_append v (variables c) (variables t) ∙ or_left (among (variables c) v) (among (variables t) v) j)) ∙ i),
            ft.good (with out (with (in_ordered oc) (in_ordered oe))) (with b (among (ordered_outputs oc))) (u_t out u)
                (λ v h. then_bound out b u v (or_right (out v) (in_ordered ot v || in_ordered oe v) (or_left (in_ordered ot v) (in_ordered oe v) (ft.vars v ∙ h))) (e v (in_t v h))),
            elim (either_way (ends modes oc && ends modes ot)) as (λ _. (ends modes oc && ends modes ot ≡ false) ⊎ Binds out (in_step (Decision oc ot oe)) b (outputs total modes bound all (binds total modes (Conditional c t r at))) (with (with b (among (ordered_outputs oc))) (among (ordered_outputs ot)))) [
              | inl k ↦ inr (λ v h i.
                  let j : among all v ≡ true = sym (vars v) ∙ h in
                  let e1 : with bound (binds total modes c) v ≡ with b (among (ordered_outputs oc)) v = then_bound out b u v (or_left (out v) (in_ordered ot v || in_ordered oe v) i) (e v j) in
                  behind_one (with bound (binds total modes c)) (variables t) (binds total modes t) (reached total modes t) ot ft (with out (with (in_ordered oc) (in_ordered oe))) (with b (among (ordered_outputs oc))) (u_t out u) v (or_left (out v) (in_ordered oc v || in_ordered oe v) i) e1
                  ∙ or_assoc (bound v) (binds total modes c v) (binds total modes t v)
                  ∙ arms_same bound all (decision_arms total modes c t r) g (record { binds = with (binds total modes c) (binds total modes t); reached = reached total modes c && reached total modes t }) (at_head (record { binds = binds total modes r; reached = reached total modes r } ∷ []))
                  (and_same (reached total modes c) (reached total modes t) (ends modes oc) (ends modes ot) (sym fc.ended) (sym ft.ended) ∙ k) v j (sym (u.0 v j) ∙ i)
                  ∙ sym (node_is out b u v i (e v j)))
              | inr k ↦ inl k
            ],
            fe.good (with out (with (in_ordered oc) (in_ordered ot))) b (u_e out u) (λ v h. e v (in_e v h)),
            elim (either_way (ends modes oe)) as (λ _. (ends modes oe ≡ false) ⊎ Binds out (in_step (Decision oc ot oe)) b (outputs total modes bound all (binds total modes (Conditional c t r at))) (with b (among (ordered_outputs oe)))) [
              | inl k ↦ inr (λ v h i.
                  let j : among all v ≡ true = sym (vars v) ∙ h in
                  behind_one bound (variables r) (binds total modes r) (reached total modes r) oe fe (with out (with (in_ordered oc) (in_ordered ot))) b (u_e out u) v (or_left (out v) (in_ordered oc v || in_ordered ot v) i) (e v j)
                  ∙ arms_same bound all (decision_arms total modes c t r) g (record { binds = binds total modes r; reached = reached total modes r }) (in_tail (record { binds = with (binds total modes c) (binds total modes t); reached = reached total modes c && reached total modes t }) (record { binds = binds total modes r; reached = reached total modes r } ∷ []) (at_head []))
                  (sym fe.ended ∙ k) v j (sym (u.0 v j) ∙ i)
                  ∙ sym (node_is out b u v i (e v j)))
              | inr k ↦ inl k
            ],
          ),
        );
      }

  -- Lists of goals.

  abbrev pub GoalFits : Node → Type 0
  GoalFits m = (bound : Bound) (o : Ordered) → from total modes m bound ≡ Ready o → Fits bound (variables m) (binds total modes m) (reached total modes m) o

  abbrev pub AllFit : Nodes → Type 0
  AllFit no_nodes = Unit {0}
  AllFit (more_nodes m ms) = GoalFits m × AllFit ms

  each_fits : (ms : Nodes) → AllFit ms → (bound : Variables) (os : Ordereds) → each_from (moves total modes ms) bound ≡ AllReady os → FitsEach bound (all_variables ms) (some_reached total modes ms) (arms total modes ms) os
  each_fits no_nodes a bound os e = subst (λ (z : Ordereds). FitsEach bound [] false [] z) (all_ready_is no_goals os e) (none_each bound)
  each_fits (more_nodes m ms) a bound os e =
      let (g, r, p, q, z) = and_all_is (from total modes m bound) (each_from (moves total modes ms) bound) os e in
      subst (λ (k : Ordereds). FitsEach bound (all_variables (more_nodes m ms)) (some_reached total modes (more_nodes m ms)) (arms total modes (more_nodes m ms)) k) z
      (more_each bound (variables m) (all_variables ms) (reached total modes m) (some_reached total modes ms) (binds total modes m) (arms total modes ms) g r (a.0 bound g p) (each_fits ms a.1 bound r q))

  beside_fits : (ms : Nodes) → AllFit ms → (number : ℕ) (bound : Variables) (os : Ordereds) → beside number (moves total modes ms) bound ≡ AllReady os → FitsList bound (all_variables ms) (some_bind total modes ms) (all_reached total modes ms) os
  beside_fits no_nodes a number bound os e = subst (λ (z : Ordereds). FitsList bound [] (λ v. false) true z) (all_ready_is no_goals os e) (none_fits bound)
  beside_fits (more_nodes m ms) a number bound os e =
      let one : Move = record { binds = λ v. binds total modes m v; span = span_of m; from = λ k. from total modes m k } in
      let (g, r, p, q, z) = beside_is number one (moves total modes ms) bound (from total modes m bound) (beside (number + 1) (moves total modes ms) (with bound (binds total modes m))) os e in
      subst (λ (k : Ordereds). FitsList bound (all_variables (more_nodes m ms)) (some_bind total modes (more_nodes m ms)) (all_reached total modes (more_nodes m ms)) k) z
      (more_fits bound (with bound (binds total modes m)) (all_variables (more_nodes m ms)) (variables m) (all_variables ms) (some_bind total modes (more_nodes m ms)) (binds total modes m) (some_bind total modes ms)
      (all_reached total modes (more_nodes m ms)) (reached total modes m) (all_reached total modes ms) g r (λ v. count_append v (variables m) (all_variables ms)) (λ v. refl) (λ v. refl) refl (a.0 bound g p) (beside_fits ms a.1 (number + 1) (with bound (binds total modes m)) r q))

  -- a move that is taken out is a goal that is
  record Taken (ms : Nodes) (move : Move) (others : List Move) : Type 0 where
    one : Node
    rest : Nodes
    together : Together (all_variables ms) (variables one) (all_variables rest)
    binding : (v : ℕ) → some_bind total modes ms v ≡ (binds total modes one v || some_bind total modes rest v)
    reach : all_reached total modes ms ≡ (reached total modes one && all_reached total modes rest)
    is_from : (bound : Bound) → move.from bound ≡ from total modes one bound
    is_binds : (v : ℕ) → move.binds v ≡ binds total modes one v
    is_rest : others ≡ moves total modes rest
    fits : AllFit ms → GoalFits one × AllFit rest

  or_past : (a b c d : Bool) → b ≡ (c || d) → (a || b) ≡ (c || (a || d))
  or_past true b true d h = refl
  or_past true b false d h = refl
  or_past false b c d h = h

  and_past : (a b c d : Bool) → b ≡ (c && d) → (a && b) ≡ (c && (a && d))
  and_past true b c d h = h
  and_past false b true d h = refl
  and_past false b false d h = refl

  taken : (ms : Nodes) (move : Move) (others : List Move) → Removed move (moves total modes ms) others → Taken ms move others
  taken no_nodes move others r = elim r [ ]
  taken (more_nodes m ms) move others (here k o) =
      record { one = m; rest = ms; together = λ v. count_append v (variables m) (all_variables ms); binding = λ v. refl; reach = refl; is_from = λ bound. refl; is_binds = λ v. refl; is_rest = refl; fits = λ a. a }
  taken (more_nodes m ms) move others (later f k a o r) =
      let t = taken ms move o r in
      record {
        one = t.one;
        rest = more_nodes m t.rest;
        together = λ v. omega (arith, count_append v (variables m) (all_variables ms), t.together v, count_append v (variables m) (all_variables t.rest));
        binding = λ v. or_past (binds total modes m v) (some_bind total modes ms v) (binds total modes t.one v) (some_bind total modes t.rest v) (t.binding v);
        reach = and_past (reached total modes m) (all_reached total modes ms) (reached total modes t.one) (all_reached total modes t.rest) t.reach;
        is_from = t.is_from;
        is_binds = t.is_binds;
        is_rest = ap (λ l. record { binds = λ v. binds total modes m v; span = span_of m; from = λ k. from total modes m k } ∷ l) t.is_rest;
        fits = λ a. ((t.fits a.1).0, (a.0, (t.fits a.1).1));
      }

  abbrev ListFits : Variables → Nodes → Ordereds → Type 0
  ListFits bound ms os = FitsList bound (all_variables ms) (some_bind total modes ms) (all_reached total modes ms) os

  settled_step : (left : ℕ) (ms : Nodes) → AllFit ms → (bound : Variables) (os : Ordereds) (first : Outcome) (found : Option Next) → length (moves total modes ms) ≡ suc left → next (moves total modes ms) bound ≡ found
      → (found ≡ None → is_ready first ≡ true → ⊥)
      → ((rest : Nodes) → AllFit rest → (now : Variables) (r : Ordereds) → length (moves total modes rest) ≡ left → settled left (moves total modes rest) now ≡ AllReady r → ListFits now rest r)
      → settled_next first bound found (settled left) ≡ AllReady os → ListFits bound ms os
  settled_step left ms a bound os first None count e some again h = absurd (some refl (none_found first os h))
  settled_step left ms a bound os first (Some found) count e some again h =
      let i = next_is (moves total modes ms) bound found e in
      let t = taken ms i.move found.others i.removed in
      let (r, p, z) = then_all_is found.goal (settled left found.others (with bound found.binds)) os h in
      let now_is : settled left (moves total modes t.rest) (with bound found.binds) ≡ AllReady r = subst (λ (l : List Move). settled left l (with bound found.binds) ≡ AllReady r) t.is_rest p in
      let counted : length (moves total modes t.rest) ≡ left = ap (λ (l : List Move). length l) (sym t.is_rest) ∙ suc_is (length found.others) left (sym (removed_length i.move (moves total modes ms) found.others i.removed) ∙ count) in
      let all = t.fits a in
      let bound_now : (v : ℕ) → found.binds v ≡ binds total modes t.one v = λ v. ap (λ (k : Bound). k v) i.binds_is ∙ t.is_binds v in
      subst (λ (k : Ordereds). ListFits bound ms k) z
      (more_fits bound (with bound found.binds) (all_variables ms) (variables t.one) (all_variables t.rest) (some_bind total modes ms) (binds total modes t.one) (some_bind total modes t.rest)
      (all_reached total modes ms) (reached total modes t.one) (all_reached total modes t.rest) found.goal r t.together (λ v. ap (λ (k : Bool). bound v || k) (bound_now v)) t.binding t.reach
      (all.0 bound found.goal (sym (t.is_from bound) ∙ i.outcome)) (again t.rest all.1 (with bound found.binds) r counted now_is))

  settled_fits : (left : ℕ) (ms : Nodes) → AllFit ms → (bound : Variables) (os : Ordereds) → length (moves total modes ms) ≡ left → settled left (moves total modes ms) bound ≡ AllReady os → ListFits bound ms os
  settled_fits left no_nodes a bound os count e = subst (λ (z : Ordereds). FitsList bound [] (λ v. false) true z) (all_ready_is no_goals os e) (none_fits bound)
  settled_fits zero (more_nodes m ms) a bound os count e = absurd cc
  settled_fits (suc left) (more_nodes m ms) a bound os count e =
      let one : Move = record { binds = λ v. binds total modes m v; span = span_of m; from = λ k. from total modes m k } in
      settled_step left (more_nodes m ms) a bound os (from total modes m bound) (next (moves total modes (more_nodes m ms)) bound) count refl
      (λ gone ready. next_none one (one ∷ moves total modes ms) (moves total modes ms) bound (here one (moves total modes ms)) ready gone)
      (λ rest b now r c f. settled_fits left rest b now r c f) e

  mutual
    pub from_fits : (m : Node) → Sized modes m → GoalFits m
    from_fits (Simple g at) l bound o h = simple_fits g at bound o l h
    from_fits (Conjunction goals at) l bound o h =
        let (g, p, q) = if_all_ready_is (settled (length (moves total modes goals)) (moves total modes goals) bound) (λ all. Ready (put (Sequence all) (outputs total modes bound (all_variables goals) (binds total modes (Conjunction goals at))) at)) o h in
        moved_to bound (all_variables goals) (some_bind total modes goals) (all_reached total modes goals) (put (Sequence g) (outputs total modes bound (all_variables goals) (some_bind total modes goals)) at) o q
        (list_goal at bound (all_variables goals) (some_bind total modes goals) (all_reached total modes goals) g (Sequence g) (settled_fits (length (moves total modes goals)) goals (all_from goals l) bound g refl p) (λ v. refl) refl (λ out b k. k))
    from_fits (Parallel goals at) l bound o h =
        let (g, p, q) = if_all_ready_is (beside 1 (moves total modes goals) bound) (λ all. Ready (put (Beside all) (outputs total modes bound (all_variables goals) (binds total modes (Parallel goals at))) at)) o h in
        moved_to bound (all_variables goals) (some_bind total modes goals) (all_reached total modes goals) (put (Beside g) (outputs total modes bound (all_variables goals) (some_bind total modes goals)) at) o q
        (list_goal at bound (all_variables goals) (some_bind total modes goals) (all_reached total modes goals) g (Beside g) (beside_fits goals (all_from goals l) 1 bound g p) (λ v. refl) refl (λ out b k. k))
    from_fits (Disjunction goals at) l bound o h =
        let (g, p, q) = if_all_ready_is (each_from (moves total modes goals) bound) (λ all.
        if agree total modes bound (all_variables goals) (arms total modes goals) then Ready (put (Choice all) (outputs total modes bound (all_variables goals) (binds total modes (Disjunction goals at))) at) else Stuck (unbound_output at)) o h in
        let k = if_is (agree total modes bound (all_variables goals) (arms total modes goals)) (put (Choice g) (outputs total modes bound (all_variables goals) (binds total modes (Disjunction goals at))) at) o (unbound_output at) q in
        subst (λ (z : Ordered). Fits bound (all_variables goals) (binds total modes (Disjunction goals at)) (some_reached total modes goals) z) k.1
        (choice_fits at bound (all_variables goals) (some_reached total modes goals) (arms total modes goals) g (each_fits goals (all_from goals l) bound g p) k.0)
    from_fits (Conditional c t r at) l bound o h =
        let (oc, p, q) = if_ready_is (from total modes c bound) (λ first.
        if binds_inside total modes bound (variables c ++ variables t) (variables c) (binds total modes c)
        then if_ready (from total modes t (with bound (binds total modes c))) (λ second. if_ready (from total modes r bound) (λ third.
        if agree total modes bound (variables (Conditional c t r at)) (decision_arms total modes c t r)
        then Ready (put (Decision first second third) (outputs total modes bound (variables (Conditional c t r at)) (binds total modes (Conditional c t r at))) at) else Stuck (unbound_output at)))
        else Stuck (binds_outer (span_of c))) o h in
        let q1 = if_then (binds_inside total modes bound (variables c ++ variables t) (variables c) (binds total modes c)) (if_ready (from total modes t (with bound (binds total modes c))) (λ second. if_ready (from total modes r bound) (λ third.
        if agree total modes bound (variables (Conditional c t r at)) (decision_arms total modes c t r)
        then Ready (put (Decision oc second third) (outputs total modes bound (variables (Conditional c t r at)) (binds total modes (Conditional c t r at))) at) else Stuck (unbound_output at)))) (binds_outer (span_of c)) o q in
        let (ot, p2, q2) = if_ready_is (from total modes t (with bound (binds total modes c))) (λ second. if_ready (from total modes r bound) (λ third.
        if agree total modes bound (variables (Conditional c t r at)) (decision_arms total modes c t r)
        then Ready (put (Decision oc second third) (outputs total modes bound (variables (Conditional c t r at)) (binds total modes (Conditional c t r at))) at) else Stuck (unbound_output at))) o q1.1 in
        let (oe, p3, q3) = if_ready_is (from total modes r bound) (λ third.
        if agree total modes bound (variables (Conditional c t r at)) (decision_arms total modes c t r)
        then Ready (put (Decision oc ot third) (outputs total modes bound (variables (Conditional c t r at)) (binds total modes (Conditional c t r at))) at) else Stuck (unbound_output at)) o q2 in
        let k = if_is (agree total modes bound (variables (Conditional c t r at)) (decision_arms total modes c t r)) (put (Decision oc ot oe) (outputs total modes bound (variables (Conditional c t r at)) (binds total modes (Conditional c t r at))) at) o (unbound_output at) q3 in
        subst (λ (z : Ordered). Fits bound (variables (Conditional c t r at)) (binds total modes (Conditional c t r at)) (reached total modes (Conditional c t r at)) z) k.1
        (decision_fits bound c t r at oc ot oe (from_fits c l.0 bound oc p) (from_fits t l.1 (with bound (binds total modes c)) ot p2) (from_fits r l.2 bound oe p3) q1.0 k.0)
    from_fits (Negation goal at) l bound o h =
        let (g, p, q) = if_ready_is (from total modes goal bound) (λ inner. if binds_inside total modes bound (variables goal) (variables goal) (binds total modes goal) then Ready (put (Denial inner) [] at) else Stuck (binds_outer at)) o h in
        let k = if_is (binds_inside total modes bound (variables goal) (variables goal) (binds total modes goal)) (put (Denial g) [] at) o (binds_outer at) q in
        subst (λ (z : Ordered). Fits bound (variables goal) (λ v. false) true z) k.1 (denial_fits at bound (variables goal) (binds total modes goal) (reached total modes goal) g (from_fits goal l bound g p) k.0)
    from_fits (Quantified own goal at) l bound o h =
        let (g, p, q) = if_ready_is (from total modes goal bound) (λ inner. Ready (put (Inside own inner) (outputs total modes bound (variables goal) (binds total modes (Quantified own goal at))) at)) o h in
        moved_to bound (variables goal) (binds total modes (Quantified own goal at)) (reached total modes goal) (put (Inside own g) (outputs total modes bound (variables goal) (binds total modes (Quantified own goal at))) at) o q
        (inside_fits at own bound (variables goal) (binds total modes goal) (reached total modes goal) g (from_fits goal l bound g p))

    all_from : (ms : Nodes) → AllSized modes ms → AllFit ms
    all_from no_nodes l = tt
    all_from (more_nodes m ms) l = (λ bound o e. from_fits m l.0 bound o e, all_from ms l.1)

pub ordered_good : OrderedIsGood
ordered_good total modes goal bound ordered l is out u = (from_fits total modes goal l bound ordered is).good out bound u (λ v h. refl)

pub ordered_variables : OrderedKeepsVariables
ordered_variables total modes goal bound ordered l is = (from_fits total modes goal l bound ordered is).vars

pub ordered_ends : OrderedEnds
ordered_ends total modes goal bound ordered l is = (from_fits total modes goal l bound ordered is).ended
