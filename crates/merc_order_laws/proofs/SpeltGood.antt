-- A good goal with its tests written out is good.
use Rattle.std.proofs.Common.{◌≡◌, ◌⊎◌, inl, inr, ℕ, ◌<◌, ◌≤◌, ◌+◌, Bool, true, false, ◌==◌, ◌||◌, ◌&&◌, List, [], ◌∷◌, ◌++◌, length, length-append, Option, Some, None, slice_get, refl, ap, sym, subst, ◌∙◌, arith}
use Rattle.merc_base.specs.declared.place.Span.{Span}
use Rattle.merc_tree.specs.declared.declarations.ModeDecl.{ModeDecl}
use Rattle.merc_graded_tree.specs.declared.basic.BasicGoal.TheVariants.{Split as SplitGoal, Arithmetic, Call}
use Rattle.merc_graded_tree.specs.Nodes.{outputs_of}
use Rattle.merc_graded_tree.specs.Variables.{in_node, in_nodes}
use Rattle.merc_order.specs.Bound.{Bound, with, among}
use Rattle.merc_order.specs.CallModes.{inputs_of}
use Rattle.merc_order.specs.Ordered.{Ordered, Step, Ordereds, put, Truth, Failure, Assign, Test, Build, Split, Computed, Compared, Raised, Called, Sequence, Beside, Choice, Decision, Denial, Within as Inside, no_goals, more_goals}
use Rattle.merc_order.specs.Spelt.{replaced, tested_places, untested_places, written, first_of, with_tests, inputs_in, twins, step_twins, all_twins, spelt, spelt_step, spelt_all}
use Rattle.merc_order_laws.specs.Bindings.{Variables, AreBound, AreFree, Binds, ArmBinds}
use Rattle.merc_order_laws.specs.GoodOrdered.{GoodCall, EachBinds, Good, GoodStep, GoodList, GoodEach}
use Rattle.merc_order_laws.specs.GoodTree.{written_by, behind_nodes, node_ends, DisjunctsBind, GoodProcedure, GoodNode, GoodNodes, GoodDisjuncts}
use Rattle.merc_order_laws.specs.OrderedVariables.{in_ordered, in_step, in_ordereds, ordered_outputs, bound_behind, ends}
use Rattle.merc_order_laws.proofs.Facts.{clash, or_left, or_right, not_true, or_same, and_same}
use Rattle.merc_order_laws.proofs.Grouping.{bound_in, group_good}
use Rattle.merc_order_laws.proofs.Replacing.{or_neither, among_places, numbered_from, numbered_to, free_replaced, Placed, placed, replaced_length, inputs_replaced, among_kinds, free_written_by}
use Rattle.merc_order_laws.proofs.SpeltVariables.{split_group, one_place, arithmetic_group, call_group, IsFresh, in_old, in_all_old, in_new, in_all_new, outputs_stay, ends_stay, behind_stays}

-- Where a goal stands: its variables lie below its fresh ones, these are not bound and do not occur outside, and of its own the same occur outside.
pub record Stands (at count : ℕ) (occ b out out' : Variables) : Type 0 where
  pub below : (v : ℕ) → occ v ≡ true → v < at
  pub none_bound : (v : ℕ) → at ≤ v → b v ≡ false
  pub agree : (v : ℕ) → occ v ≡ true → out' v ≡ out v
  pub misses : (v : ℕ) → at ≤ v → v < at + count → out' v ≡ false

-- what occurs now and outside did so before
abbrev pub Carries : Variables → Variables → Variables → Variables → Type 0
Carries occ out occ' out' = (v : ℕ) → occ' v ≡ true → out' v ≡ true → (occ v ≡ true) × (out v ≡ true)

carried : (at count : ℕ) (occ b out out' occ' : Variables) → Stands at count occ b out out' → ((v : ℕ) → occ' v ≡ true → (occ v ≡ true) ⊎ IsFresh at count v) → Carries occ out occ' out'
carried at count occ b out out' occ' p f v h o = either (f v h) where
  either : (occ v ≡ true) ⊎ IsFresh at count v → (occ v ≡ true) × (out v ≡ true)
  either (inl k) = (k, sym (p.agree v k) ∙ o)
  either (inr k) = clash o (p.misses v k.0 k.1)

binds_moved : (occ out occ' out' b b1 b2 : Variables) (outs : List ℕ) → Carries occ out occ' out' → ((v : ℕ) → b2 v ≡ b1 v) → Binds out occ b outs b1 → Binds out' occ' b outs b2
binds_moved occ out occ' out' b b1 b2 outs c e h v i o = let k = c v i o in e v ∙ h v k.0 k.1

arm_moved : (r r' : Bool) (occ out occ' out' b b1 b2 : Variables) (outs : List ℕ) → r' ≡ r → Carries occ out occ' out' → ((v : ℕ) → b2 v ≡ b1 v) → ArmBinds r out occ b outs b1 → ArmBinds r' out' occ' b outs b2
arm_moved r r' occ out occ' out' b b1 b2 outs s c e (inl h) = inl (s ∙ h)
arm_moved r r' occ out occ' out' b b1 b2 outs s c e (inr h) = inr (binds_moved occ out occ' out' b b1 b2 outs c e h)

module _ (modes : ℕ → List ModeDecl) where
  good_outs : (o : Ordered) (out b : Variables) → Good modes out b o → (v : ℕ) → among (ordered_outputs o) v ≡ true → in_ordered o v ≡ true
  good_outs (put s outs span) out b g = g.0

  -- a variable that is neither a goal's nor one of its fresh ones
  apart : (o : Ordered) (at here v : ℕ) → ((w : ℕ) → in_ordered o w ≡ true → w < at) → at ≤ v → (IsFresh here (length (twins o)) v → ⊥) → in_node (spelt modes here o) v ≡ false
  apart o at here v below l missed = not_true (in_node (spelt modes here o) v) (λ h. either (in_new modes o here v h)) where
    either : (in_ordered o v ≡ true) ⊎ IsFresh here (length (twins o)) v → ⊥
    either (inl k) = omega (arith, l, below v k)
    either (inr k) = missed k

  all_apart : (os : Ordereds) (at here v : ℕ) → ((w : ℕ) → in_ordereds os w ≡ true → w < at) → at ≤ v → (IsFresh here (length (all_twins os)) v → ⊥) → in_nodes (spelt_all modes here os) v ≡ false
  all_apart os at here v below l missed = not_true (in_nodes (spelt_all modes here os) v) (λ h. either (in_all_new modes os here v h)) where
    either : (in_ordereds os v ≡ true) ⊎ IsFresh here (length (all_twins os)) v → ⊥
    either (inl k) = omega (arith, l, below v k)
    either (inr k) = missed k

  call_good : (found : Option ModeDecl) (predicate mode : ℕ) (arguments : List ℕ) (tests : List Bool) (outs : List ℕ) (span : Span) (at : ℕ) (b out out' : Variables) → slice_get (modes predicate) mode ≡ found
      → Stands at (length (tested_places arguments tests)) (λ v. among arguments v) b out out' → ((v : ℕ) → among outs v ≡ true → among arguments v ≡ true) → AreFree b outs → GoodCall out b outs found arguments tests
      → GoodNode modes out' b (with_tests at (Call (record { predicate = predicate; mode = mode }) (replaced at arguments tests)) (written (inputs_in found) arguments tests) (tested_places arguments tests) outs span)
  call_good None predicate mode arguments tests outs span at b out out' e p i f g = absurd g
  call_good (Some m) predicate mode arguments tests outs span at b out out' e p i f g =
      let k : Placed m.args arguments tests = placed m.args arguments tests g.0 in
      let below : (v : ℕ) → among (written m.args arguments tests) v ≡ true → v < at =
      λ v h. p.below v (among_kinds m.args arguments tests k v
      ∙ or_right (among (inputs_of m.args arguments) v) (among (written m.args arguments tests) v || among (tested_places arguments tests) v) (or_left (among (written m.args arguments tests) v) (among (tested_places arguments tests) v) h)) in
      group_good modes at (Call (record { predicate = predicate; mode = mode }) (replaced at arguments tests)) b (λ v. among (inputs_of m.args arguments) v) (λ v. among arguments v) out out'
      (written m.args arguments tests) (tested_places arguments tests) (written_by m.args (replaced at arguments tests)) outs span (record {
        group = call_group at predicate mode m.args arguments tests b k (bound_in b (inputs_of m.args arguments) g.1);
        are_free = g.2.0;
        are_tested = g.2.1;
        binds = g.2.2;
        outs_in = i;
        outs_free = f;
        below = p.below;
        none_bound = p.none_bound;
        agree = p.agree;
        misses = λ v h. p.misses v (numbered_from at (tested_places arguments tests) v h) (numbered_to at (tested_places arguments tests) v h);
        basic = λ o j h. subst (λ (z : Option ModeDecl). GoodProcedure o b j z (replaced at arguments tests)) (sym e) (
          replaced_length at m.args arguments tests k,
          subst (λ (l : List ℕ). AreBound b l) (sym (inputs_replaced at m.args arguments tests k)) g.1,
          free_written_by b at m.args arguments tests k p.none_bound below g.2.0,
          h,
        );
      })

  each_moved : (os : Ordereds) (at : ℕ) (occ out occ' out' b : Variables) (outs : List ℕ) → Carries occ out occ' out' → EachBinds modes out occ b outs os → DisjunctsBind modes out' occ' b outs (spelt_all modes at os)
  each_moved no_goals at occ out occ' out' b outs c h = tt
  each_moved (more_goals o os) at occ out occ' out' b outs c h = (
    arm_moved (ends modes o) (node_ends modes (spelt modes at o)) occ out occ' out' b (with b (among (ordered_outputs o))) (with b (among (outputs_of (spelt modes at o)))) outs (ends_stay modes o at) c
        (λ v. ap (λ (l : List ℕ). b v || among l v) (outputs_stay modes o at)) h.0,
    each_moved os (at + length (twins o)) occ out occ' out' b outs c h.1,
  )

  -- Where the parts of a goal stand.

  first_stands : (o : Ordered) (os : Ordereds) (at : ℕ) (b out out' : Variables) → Stands at (length (all_twins (more_goals o os))) (in_ordereds (more_goals o os)) b out out'
      → Stands at (length (twins o)) (in_ordered o) b (with out (in_ordereds os)) (with out' (in_nodes (spelt_all modes (at + length (twins o)) os)))
  first_stands o os at b out out' p =
      let count : length (twins o ++ all_twins os) ≡ length (twins o) + length (all_twins os) = length-append (twins o) (all_twins os) in
      record {
        below = λ v h. p.below v (or_left (in_ordered o v) (in_ordereds os v) h);
        none_bound = p.none_bound;
        agree = λ v h.
            let l : v < at = p.below v (or_left (in_ordered o v) (in_ordereds os v) h) in
            or_same (out' v) (in_nodes (spelt_all modes (at + length (twins o)) os) v) (out v) (in_ordereds os v) (p.agree v (or_left (in_ordered o v) (in_ordereds os v) h))
            (in_all_old modes os (at + length (twins o)) v (omega (arith, l)));
        misses = λ v l r.
            or_neither (out' v) (in_nodes (spelt_all modes (at + length (twins o)) os) v) (p.misses v l (omega (arith, r, count)))
            (all_apart os at (at + length (twins o)) v (λ w h. p.below w (or_right (in_ordered o w) (in_ordereds os w) h)) l (λ k. omega (arith, r, k.0)));
      }

  rest_stands : (o : Ordered) (os : Ordereds) (at : ℕ) (b out out' : Variables) → ((v : ℕ) → among (ordered_outputs o) v ≡ true → in_ordered o v ≡ true)
      → Stands at (length (all_twins (more_goals o os))) (in_ordereds (more_goals o os)) b out out'
      → Stands (at + length (twins o)) (length (all_twins os)) (in_ordereds os) (with b (among (ordered_outputs o))) (with out (in_ordered o)) (with out' (in_node (spelt modes at o)))
  rest_stands o os at b out out' i p =
      let count : length (twins o ++ all_twins os) ≡ length (twins o) + length (all_twins os) = length-append (twins o) (all_twins os) in
      let below : (w : ℕ) → in_ordered o w ≡ true → w < at = λ w h. p.below w (or_left (in_ordered o w) (in_ordereds os w) h) in
      let later : (w : ℕ) → in_ordereds os w ≡ true → w < at = λ w h. p.below w (or_right (in_ordered o w) (in_ordereds os w) h) in
      record {
        below = λ v h. omega (arith, later v h);
        none_bound = λ v l. or_neither (b v) (among (ordered_outputs o) v) (p.none_bound v (omega (arith, l))) (not_true (among (ordered_outputs o) v) (λ h. omega (arith, l, below v (i v h))));
        agree = λ v h.
            or_same (out' v) (in_node (spelt modes at o) v) (out v) (in_ordered o v) (p.agree v (or_right (in_ordered o v) (in_ordereds os v) h)) (in_old modes o at v (later v h));
        misses = λ v l r.
            or_neither (out' v) (in_node (spelt modes at o) v) (p.misses v (omega (arith, l)) (omega (arith, r, count))) (apart o at at v below (omega (arith, l)) (λ k. omega (arith, l, k.1)));
      }

  -- of disjuncts, which do not see each other
  first_alone : (o : Ordered) (os : Ordereds) (at : ℕ) (b out out' : Variables) → Stands at (length (all_twins (more_goals o os))) (in_ordereds (more_goals o os)) b out out' → Stands at (length (twins o)) (in_ordered o) b out out'
  first_alone o os at b out out' p =
      let count : length (twins o ++ all_twins os) ≡ length (twins o) + length (all_twins os) = length-append (twins o) (all_twins os) in
      record {
        below = λ v h. p.below v (or_left (in_ordered o v) (in_ordereds os v) h);
        none_bound = p.none_bound;
        agree = λ v h. p.agree v (or_left (in_ordered o v) (in_ordereds os v) h);
        misses = λ v l r. p.misses v l (omega (arith, r, count));
      }

  rest_alone : (o : Ordered) (os : Ordereds) (at : ℕ) (b out out' : Variables) → Stands at (length (all_twins (more_goals o os))) (in_ordereds (more_goals o os)) b out out'
      → Stands (at + length (twins o)) (length (all_twins os)) (in_ordereds os) b out out'
  rest_alone o os at b out out' p =
      let count : length (twins o ++ all_twins os) ≡ length (twins o) + length (all_twins os) = length-append (twins o) (all_twins os) in
      record {
        below = λ v h. omega (arith, p.below v (or_right (in_ordered o v) (in_ordereds os v) h));
        none_bound = λ v l. p.none_bound v (omega (arith, l));
        agree = λ v h. p.agree v (or_right (in_ordered o v) (in_ordereds os v) h);
        misses = λ v l r. p.misses v (omega (arith, l)) (omega (arith, r, count));
      }

  -- A part of an if-then-else beside two others. The part and the others begin at these numbers, of which the part's are among the whole's.
  part_stands : (o x y : Ordered) (at whole here m n : ℕ) (b c out out' occ : Variables) → Stands at whole occ b out out' → ((v : ℕ) → in_ordered o v ≡ true → occ v ≡ true) → ((v : ℕ) → in_ordered x v ≡ true → occ v ≡ true)
      → ((v : ℕ) → in_ordered y v ≡ true → occ v ≡ true) → at ≤ here → here + length (twins o) ≤ at + whole → at ≤ m → at ≤ n → ((v : ℕ) → IsFresh here (length (twins o)) v → IsFresh m (length (twins x)) v → ⊥)
      → ((v : ℕ) → IsFresh here (length (twins o)) v → IsFresh n (length (twins y)) v → ⊥) → ((v : ℕ) → here ≤ v → c v ≡ false)
      → Stands here (length (twins o)) (in_ordered o) c (with out (with (in_ordered x) (in_ordered y))) (with out' (with (in_node (spelt modes m x)) (in_node (spelt modes n y))))
  part_stands o x y at whole here m n b c out out' occ p oi xi yi up within mu nu mx ny none = record {
    below = λ v h. omega (arith, up, p.below v (oi v h));
    none_bound = none;
    agree = λ v h.
        let l : v < at = p.below v (oi v h) in
        or_same (out' v) (in_node (spelt modes m x) v || in_node (spelt modes n y) v) (out v) (in_ordered x v || in_ordered y v) (p.agree v (oi v h))
        (or_same (in_node (spelt modes m x) v) (in_node (spelt modes n y) v) (in_ordered x v) (in_ordered y v) (in_old modes x m v (omega (arith, l, mu))) (in_old modes y n v (omega (arith, l, nu))));
    misses = λ v l r.
        or_neither (out' v) (in_node (spelt modes m x) v || in_node (spelt modes n y) v) (p.misses v (omega (arith, l, up)) (omega (arith, r, within)))
        (or_neither (in_node (spelt modes m x) v) (in_node (spelt modes n y) v)
        (apart x at m v (λ w h. p.below w (xi w h)) (omega (arith, l, up)) (mx v (l, r)))
        (apart y at n v (λ w h. p.below w (yi w h)) (omega (arith, l, up)) (ny v (l, r))));
  }

  mutual
    pub spelt_good : (o : Ordered) (at : ℕ) (b out out' : Variables) → Stands at (length (twins o)) (in_ordered o) b out out' → Good modes out b o → GoodNode modes out' b (spelt modes at o)
    spelt_good (put s outs span) at b out out' p g = step_good s outs span at b out out' p g.0 g.1 g.2

    step_good : (s : Step) (outs : List ℕ) (span : Span) (at : ℕ) (b out out' : Variables) → Stands at (length (step_twins s)) (in_step s) b out out' → ((v : ℕ) → among outs v ≡ true → in_step s v ≡ true) → AreFree b outs
        → GoodStep modes out b outs s → GoodNode modes out' b (spelt_step modes at s outs span)
    step_good Truth outs span at b out out' p i f g = (i, f, tt)
    step_good Failure outs span at b out out' p i f g = (i, f, tt)
    step_good (Assign to from) outs span at b out out' p i f g = (i, f, (g.0, g.1, λ v h o. g.2 v h (sym (p.agree v h) ∙ o)))
    step_good (Test one other) outs span at b out out' p i f g = (i, f, g)
    step_good (Build whole symbol arguments) outs span at b out out' p i f g = (i, f, (g.0, g.1, λ v h o. g.2 v h (sym (p.agree v h) ∙ o)))
    step_good (Split whole symbol arguments tests) outs span at b out out' p i f g =
        group_good modes at (SplitGoal whole symbol (replaced at arguments tests)) b (λ v. v == whole) (λ v. among (whole ∷ arguments) v) out out' (untested_places arguments tests) (tested_places arguments tests) (replaced at arguments tests) outs span (record {
          group = split_group at whole symbol arguments tests b g.0;
          are_free = g.1.0;
          are_tested = g.1.1;
          binds = g.1.2;
          outs_in = i;
          outs_free = f;
          below = p.below;
          none_bound = p.none_bound;
          agree = p.agree;
          misses = λ v h. p.misses v (numbered_from at (tested_places arguments tests) v h) (numbered_to at (tested_places arguments tests) v h);
          basic = λ o j h. (
            g.0,
            free_replaced b at arguments tests p.none_bound
                (λ v k. p.below v (or_right (v == whole) (among arguments v) (among_places arguments tests v ∙ or_left (among (untested_places arguments tests) v) (among (tested_places arguments tests) v) k))) g.1.0,
            h,
          );
        })
    step_good (Computed operation result left right tests) outs span at b out out' p i f g =
        let free : AreFree b (first_of (replaced at (result ∷ []) tests) ∷ []) = subst (λ (l : List ℕ). AreFree b l) (one_place at result tests)
        (free_replaced b at (result ∷ []) tests p.none_bound
        (λ v k. p.below v (widen (v == result) (among (left ∷ right ∷ []) v) (among_places (result ∷ []) tests v ∙ or_left (among (untested_places (result ∷ []) tests) v) (among (tested_places (result ∷ []) tests) v) k))) g.2.0) in
        group_good modes at (Arithmetic operation (first_of (replaced at (result ∷ []) tests)) left right) b (λ v. among (left ∷ right ∷ []) v) (λ v. among (result ∷ left ∷ right ∷ []) v) out out' (untested_places (result ∷ []) tests)
        (tested_places (result ∷ []) tests) (replaced at (result ∷ []) tests) outs span (record {
          group = arithmetic_group at operation result left right tests b (bound_in b (left ∷ right ∷ []) (g.0, (g.1, tt)));
          are_free = g.2.0;
          are_tested = g.2.1;
          binds = g.2.2;
          outs_in = i;
          outs_free = f;
          below = p.below;
          none_bound = p.none_bound;
          agree = p.agree;
          misses = λ v h. p.misses v (numbered_from at (tested_places (result ∷ []) tests) v h) (numbered_to at (tested_places (result ∷ []) tests) v h);
          basic = λ o j h. (
            g.0,
            g.1,
            free.0,
            subst (λ (l : List ℕ). Binds o (among (first_of (replaced at (result ∷ []) tests) ∷ left ∷ right ∷ [])) b j (with b (among l))) (one_place at result tests) h,
          );
        }) where
          widen : (e k : Bool) → (e || false) ≡ true → (e || k) ≡ true
          widen true k h = refl
          widen false k h = clash h refl
    step_good (Compared comparison left right) outs span at b out out' p i f g = (i, f, g)
    step_good (Raised text) outs span at b out out' p i f g = (i, f, g)
    step_good (Called predicate mode arguments tests) outs span at b out out' p i f g = call_good (slice_get (modes predicate) mode) predicate mode arguments tests outs span at b out out' refl p i f g
    step_good (Sequence goals) outs span at b out out' p i f g = (
      λ v h. in_all_old modes goals at v (p.below v (i v h)) ∙ i v h,
      f,
      (
        list_good goals at b out out' p g.0,
        binds_moved (in_ordereds goals) out (in_nodes (spelt_all modes at goals)) out' b (bound_behind b goals) (behind_nodes b (spelt_all modes at goals)) outs
            (carried at (length (all_twins goals)) (in_ordereds goals) b out out' (in_nodes (spelt_all modes at goals)) p (in_all_new modes goals at)) (λ v. ap (λ (k : Bound). k v) (behind_stays modes goals at b)) g.1,
      ),
    )
    step_good (Beside goals) outs span at b out out' p i f g = (
      λ v h. in_all_old modes goals at v (p.below v (i v h)) ∙ i v h,
      f,
      (
        list_good goals at b out out' p g.0,
        binds_moved (in_ordereds goals) out (in_nodes (spelt_all modes at goals)) out' b (bound_behind b goals) (behind_nodes b (spelt_all modes at goals)) outs
            (carried at (length (all_twins goals)) (in_ordereds goals) b out out' (in_nodes (spelt_all modes at goals)) p (in_all_new modes goals at)) (λ v. ap (λ (k : Bound). k v) (behind_stays modes goals at b)) g.1,
      ),
    )
    step_good (Choice goals) outs span at b out out' p i f g = (
      λ v h. in_all_old modes goals at v (p.below v (i v h)) ∙ i v h,
      f,
      (
        each_good goals at b out out' p g.0,
        each_moved goals at (in_ordereds goals) out (in_nodes (spelt_all modes at goals)) out' b outs
            (carried at (length (all_twins goals)) (in_ordereds goals) b out out' (in_nodes (spelt_all modes at goals)) p (in_all_new modes goals at)) g.1,
      ),
    )
    step_good (Decision c t e) outs span at b out out' p i f g =
        let count : length (twins c ++ (twins t ++ twins e)) ≡ length (twins c) + (length (twins t) + length (twins e)) =
        omega (arith, length-append (twins c) (twins t ++ twins e), length-append (twins t) (twins e)) in
        let ci : (v : ℕ) → in_ordered c v ≡ true → in_step (Decision c t e) v ≡ true = λ v h. or_left (in_ordered c v) (in_ordered t v || in_ordered e v) h in
        let ti : (v : ℕ) → in_ordered t v ≡ true → in_step (Decision c t e) v ≡ true = λ v h. or_right (in_ordered c v) (in_ordered t v || in_ordered e v) (or_left (in_ordered t v) (in_ordered e v) h) in
        let ei : (v : ℕ) → in_ordered e v ≡ true → in_step (Decision c t e) v ≡ true = λ v h. or_right (in_ordered c v) (in_ordered t v || in_ordered e v) (or_right (in_ordered t v) (in_ordered e v) h) in
        let outs_of_c : (v : ℕ) → among (ordered_outputs c) v ≡ true → in_ordered c v ≡ true = good_outs c (with out (with (in_ordered t) (in_ordered e))) b g.0 in
        let carries : Carries (in_step (Decision c t e)) out (in_node (spelt_step modes at (Decision c t e) outs span)) out' =
        carried at (length (step_twins (Decision c t e))) (in_step (Decision c t e)) b out out' (in_node (spelt_step modes at (Decision c t e) outs span)) p (λ v h. in_new modes (put (Decision c t e) outs span) at v h) in (
          λ v h. in_old modes (put (Decision c t e) outs span) at v (p.below v (i v h)) ∙ i v h,
          f,
          (
            spelt_good c at b (with out (with (in_ordered t) (in_ordered e))) (with out' (with (in_node (spelt modes (at + length (twins c)) t)) (in_node (spelt modes (at + length (twins c) + length (twins t)) e))))
                (part_stands c t e at (length (step_twins (Decision c t e))) at (at + length (twins c)) (at + length (twins c) + length (twins t)) b b out out' (in_step (Decision c t e)) p ci ti ei (omega (arith)) (omega (arith, count)) (omega (arith)) (omega (arith))
                (λ v h k. omega (arith, h.1, k.0)) (λ v h k. omega (arith, h.1, k.0)) p.none_bound) g.0,
            λ v h. ap (λ (l : List ℕ). among l v) (outputs_stay modes c at) ∙ not_true (among (ordered_outputs c) v) (λ k.
                let l : v < at = p.below v (ci v (outs_of_c v k)) in
                clash k (g.1 v (sym (or_same (out' v) (in_node (spelt modes (at + length (twins c) + length (twins t)) e) v) (out v) (in_ordered e v) (p.agree v (ci v (outs_of_c v k)))
                (in_old modes e (at + length (twins c) + length (twins t)) v (omega (arith, l)))) ∙ h))),
            subst (λ (l : List ℕ). GoodNode modes (with out' (with (in_node (spelt modes at c)) (in_node (spelt modes (at + length (twins c) + length (twins t)) e)))) (with b (among l)) (spelt modes (at + length (twins c)) t)) (sym (outputs_stay modes c at))
                (spelt_good t (at + length (twins c)) (with b (among (ordered_outputs c))) (with out (with (in_ordered c) (in_ordered e))) (with out' (with (in_node (spelt modes at c)) (in_node (spelt modes (at + length (twins c) + length (twins t)) e))))
                (part_stands t c e at (length (step_twins (Decision c t e))) (at + length (twins c)) at (at + length (twins c) + length (twins t)) b (with b (among (ordered_outputs c))) out out' (in_step (Decision c t e)) p ti ci ei
                (omega (arith)) (omega (arith, count)) (omega (arith)) (omega (arith)) (λ v h k. omega (arith, h.0, k.1)) (λ v h k. omega (arith, h.1, k.0))
                (λ v l. or_neither (b v) (among (ordered_outputs c) v) (p.none_bound v (omega (arith, l))) (not_true (among (ordered_outputs c) v) (λ k. omega (arith, l, p.below v (ci v (outs_of_c v k))))))) g.2),
            arm_moved (ends modes c && ends modes t) (node_ends modes (spelt modes at c) && node_ends modes (spelt modes (at + length (twins c)) t)) (in_step (Decision c t e)) out (in_node (spelt_step modes at (Decision c t e) outs span)) out' b
                (with (with b (among (ordered_outputs c))) (among (ordered_outputs t))) (with (with b (among (outputs_of (spelt modes at c)))) (among (outputs_of (spelt modes (at + length (twins c)) t)))) outs
                (and_same (node_ends modes (spelt modes at c)) (node_ends modes (spelt modes (at + length (twins c)) t)) (ends modes c) (ends modes t) (ends_stay modes c at) (ends_stay modes t (at + length (twins c)))) carries
                (λ v. ap (λ (l : List ℕ). (b v || among l v) || among (outputs_of (spelt modes (at + length (twins c)) t)) v) (outputs_stay modes c at)
                ∙ ap (λ (l : List ℕ). (b v || among (ordered_outputs c) v) || among l v) (outputs_stay modes t (at + length (twins c)))) g.3,
            spelt_good e (at + length (twins c) + length (twins t)) b (with out (with (in_ordered c) (in_ordered t))) (with out' (with (in_node (spelt modes at c)) (in_node (spelt modes (at + length (twins c)) t))))
                (part_stands e c t at (length (step_twins (Decision c t e))) (at + length (twins c) + length (twins t)) at (at + length (twins c)) b b out out' (in_step (Decision c t e)) p ei ci ti
                (omega (arith)) (omega (arith, count)) (omega (arith)) (omega (arith)) (λ v h k. omega (arith, h.0, k.1)) (λ v h k. omega (arith, h.0, k.1)) (λ v l. p.none_bound v (omega (arith, l)))) g.4,
            arm_moved (ends modes e) (node_ends modes (spelt modes (at + length (twins c) + length (twins t)) e)) (in_step (Decision c t e)) out (in_node (spelt_step modes at (Decision c t e) outs span)) out' b
                (with b (among (ordered_outputs e))) (with b (among (outputs_of (spelt modes (at + length (twins c) + length (twins t)) e)))) outs (ends_stay modes e (at + length (twins c) + length (twins t))) carries
                (λ v. ap (λ (l : List ℕ). b v || among l v) (outputs_stay modes e (at + length (twins c) + length (twins t)))) g.5,
          ),
        )
    step_good (Denial goal) outs span at b out out' p i f g = (
      λ v h. in_old modes goal at v (p.below v (i v h)) ∙ i v h,
      f,
      (
        spelt_good goal at b out out' p g.0,
        λ v h. ap (λ (l : List ℕ). among l v) (outputs_stay modes goal at) ∙ not_true (among (ordered_outputs goal) v) (λ k. clash k (g.1 v (sym (p.agree v (good_outs goal out b g.0 v k)) ∙ h))),
        binds_moved (in_ordered goal) out (in_node (spelt modes at goal)) out' b b b outs (carried at (length (twins goal)) (in_ordered goal) b out out' (in_node (spelt modes at goal)) p (in_new modes goal at)) (λ v. refl) g.2,
      ),
    )
    step_good (Inside own goal) outs span at b out out' p i f g = (
      λ v h. in_old modes goal at v (p.below v (i v h)) ∙ i v h,
      f,
      (
        spelt_good goal at b out out' p g.0,
        binds_moved (in_ordered goal) out (in_node (spelt modes at goal)) out' b (with b (among (ordered_outputs goal))) (with b (among (outputs_of (spelt modes at goal)))) outs
            (carried at (length (twins goal)) (in_ordered goal) b out out' (in_node (spelt modes at goal)) p (in_new modes goal at)) (λ v. ap (λ (l : List ℕ). b v || among l v) (outputs_stay modes goal at)) g.1,
      ),
    )

    list_good : (os : Ordereds) (at : ℕ) (b out out' : Variables) → Stands at (length (all_twins os)) (in_ordereds os) b out out' → GoodList modes out b os → GoodNodes modes out' b (spelt_all modes at os)
    list_good no_goals at b out out' p g = tt
    list_good (more_goals o os) at b out out' p g = (
      spelt_good o at b (with out (in_ordereds os)) (with out' (in_nodes (spelt_all modes (at + length (twins o)) os))) (first_stands o os at b out out' p) g.0,
      subst (λ (l : List ℕ). GoodNodes modes (with out' (in_node (spelt modes at o))) (with b (among l)) (spelt_all modes (at + length (twins o)) os)) (sym (outputs_stay modes o at))
          (list_good os (at + length (twins o)) (with b (among (ordered_outputs o))) (with out (in_ordered o)) (with out' (in_node (spelt modes at o)))
          (rest_stands o os at b out out' (good_outs o (with out (in_ordereds os)) b g.0) p) g.1),
    )

    each_good : (os : Ordereds) (at : ℕ) (b out out' : Variables) → Stands at (length (all_twins os)) (in_ordereds os) b out out' → GoodEach modes out b os → GoodDisjuncts modes out' b (spelt_all modes at os)
    each_good no_goals at b out out' p g = tt
    each_good (more_goals o os) at b out out' p g = (spelt_good o at b out out' (first_alone o os at b out out' p) g.0, each_good os (at + length (twins o)) b out out' (rest_alone o os at b out out' p) g.1)
