-- The outputs of each part of an ordered goal are outputs of those of its parts that bind them.
use Rattle.std.proofs.Common.{◌≡◌, ◌⊎◌, inl, inr, ℕ, zero, suc, ◌≤◌, ◌+◌, Bool, true, false, not, ◌||◌, ◌&&◌, if◌then◌else◌, List, [], ◌∷◌, ◌++◌, length, Option, Some, None, slice_get, refl, ap, sym, subst, ◌∙◌, arith}
use Rattle.std.specs.List.{AllByRecursion}
use Rattle.merc_base.specs.declared.place.Span.{Span}
use Rattle.merc_tree.specs.declared.declarations.ModeDecl.{ModeDecl}
use Rattle.merc_goal_tree.specs.declared.goal.SimpleGoal.{SimpleGoal}
use Rattle.merc_goal_tree.specs.declared.goal.SimpleGoal.TheVariants.{True, Fail, Same, Shape, Arithmetic, Compare, Raise, Call}
use Rattle.merc_goal_tree.specs.Nodes.{Node, Nodes, Simple, Conjunction, Parallel, Disjunction, Conditional, Negation, Quantified, no_nodes, more_nodes, span_of}
use Rattle.merc_goal_tree.specs.Variables.{variables_of, variables, all_variables, count}
use Rattle.merc_order.specs.Bound.{Bound, with, among, are_bound}
use Rattle.merc_order.specs.CallModes.{taken_from, tested, call_tested}
use Rattle.merc_order.specs.Faults.{never_ready, binds_outer, unbound_output}
use Rattle.merc_order.specs.Moves.{Move, Next, next, fault_in, settled, settled_next, beside, each_from}
use Rattle.merc_order.specs.Order.{outside, binds, arms, decision_arms, binds_inside, agree, outputs, same_from, called_from, simple_from, from, moves}
use Rattle.merc_order.specs.Ordered.{Ordered, Step, Ordereds, put, Truth, Failure, Assign, Test, Build, Split, Computed, Compared, Raised, Called, Sequence, Beside, Choice, Decision, Denial, Within as Inside, no_goals, more_goals, Outcome, Ready, Stuck, AllReady, if_ready}
use Rattle.merc_order.specs.Spelt.{untested_places, written, inputs_in, inputs_at}
use Rattle.merc_order.specs.Ways.{Removed, here, later}
use Rattle.merc_order.proofs.MoveLaws.{next_is}
use Rattle.merc_order_laws.specs.Bindings.{Variables, Binds, ArmBinds}
use Rattle.merc_order_laws.specs.GoodOrdered.{GoodCall, EachBinds, GoodStep}
use Rattle.merc_order_laws.specs.Laws.{Sized, AllSized}
use Rattle.merc_order_laws.specs.OrderedVariables.{in_ordered, in_step, in_ordereds, ordered_outputs, bound_behind, ends}
use Rattle.merc_order_laws.proofs.Facts.{clash, or_left, and_left, and_right, or_assoc, among_append, count_append}
use Rattle.merc_order_laws.proofs.Groups.{among_outputs}
use Rattle.merc_order_laws.proofs.Ordering.{chosen, ready_is, all_ready_is, stuck_not, one_stuck_not, if_ready_is, if_all_ready_is, then_all_is, and_all_is, beside_is, if_is, if_then, from_fits}
use Rattle.merc_script_laws.specs.Parallel.{AreWithin}

abbrev pub all_ordered_outputs : Ordereds → List ℕ
all_ordered_outputs no_goals = []
all_ordered_outputs (more_goals first rest) = ordered_outputs first ++ all_ordered_outputs rest

-- Given are the modes of each predicate.
module _ (modes : ℕ → List ModeDecl) where
  -- an arm has the outputs of the whole, unless its end cannot be reached
  abbrev pub OrderedArmHas : List ℕ → Ordered → Type 0
  OrderedArmHas outs arm = (ends modes arm ≡ false) ⊎ AreWithin outs (ordered_outputs arm)

  abbrev mutual
    -- the outputs of each part are outputs of those that it joins, or among what it writes itself
    pub OrderedKeepsOutputs : Ordered → Type 0
    OrderedKeepsOutputs (put step outs span) = StepKeepsOutputs outs step

    pub StepKeepsOutputs : List ℕ → Step → Type 0
    StepKeepsOutputs outs Truth = Unit {0}
    StepKeepsOutputs outs Failure = Unit {0}
    StepKeepsOutputs outs (Assign to from) = Unit {0}
    StepKeepsOutputs outs (Test one other) = Unit {0}
    StepKeepsOutputs outs (Build whole symbol arguments) = Unit {0}
    StepKeepsOutputs outs (Split whole symbol arguments tests) = AreWithin outs (untested_places arguments tests)
    StepKeepsOutputs outs (Computed operation result left right tests) = AreWithin outs (untested_places (result ∷ []) tests)
    StepKeepsOutputs outs (Compared comparison left right) = Unit {0}
    StepKeepsOutputs outs (Raised text) = Unit {0}
    StepKeepsOutputs outs (Called predicate mode arguments tests) = AreWithin outs (written (inputs_at modes predicate mode) arguments tests)
    StepKeepsOutputs outs (Sequence goals) = AllOrderedKeepOutputs goals × AreWithin outs (all_ordered_outputs goals)
    StepKeepsOutputs outs (Beside goals) = AllOrderedKeepOutputs goals × AreWithin outs (all_ordered_outputs goals)
    StepKeepsOutputs outs (Choice goals) = EachOrderedKeepsOutputs outs goals
    StepKeepsOutputs outs (Decision condition then_part else_part) =
        OrderedKeepsOutputs condition
        × (OrderedKeepsOutputs then_part × ((ends modes condition ≡ false) ⊎ OrderedArmHas outs then_part))
        × (OrderedKeepsOutputs else_part × OrderedArmHas outs else_part)
    StepKeepsOutputs outs (Denial goal) = OrderedKeepsOutputs goal × (outs ≡ [])
    StepKeepsOutputs outs (Inside own goal) = OrderedKeepsOutputs goal × AreWithin outs (ordered_outputs goal)

    pub AllOrderedKeepOutputs : Ordereds → Type 0
    AllOrderedKeepOutputs no_goals = Unit {0}
    AllOrderedKeepOutputs (more_goals first rest) = OrderedKeepsOutputs first × AllOrderedKeepOutputs rest

    pub EachOrderedKeepsOutputs : List ℕ → Ordereds → Type 0
    EachOrderedKeepsOutputs outs no_goals = Unit {0}
    EachOrderedKeepsOutputs outs (more_goals first rest) = (OrderedKeepsOutputs first × OrderedArmHas outs first) × EachOrderedKeepsOutputs outs rest

-- The outputs of one goal: they occur in it and outside it, and are not bound before.
record Own (out b occ : Variables) (outs : List ℕ) : Type 0 where
  occurs : (v : ℕ) → among outs v ≡ true → occ v ≡ true
  outer : (v : ℕ) → among outs v ≡ true → out v ≡ true
  free : (v : ℕ) → among outs v ≡ true → b v ≡ false

gain : (b o w : Bool) → (b || w) ≡ (b || o) → b ≡ false → o ≡ true → w ≡ true
gain true o w e f h = clash refl f
gain false o w e f h = e ∙ h

-- so what is bound behind the goal in their place has them all
gained : (out b occ : Variables) (outs others : List ℕ) → Own out b occ outs → Binds out occ b outs (with b (among others)) → AreWithin outs others
gained out b occ outs others own h v k = gain (b v) (among outs v) (among others v) (h v (own.occurs v k) (own.outer v k)) (own.free v k) k

then_gain : (b c o t : Bool) → ((b || c) || t) ≡ (b || o) → b ≡ false → c ≡ false → o ≡ true → t ≡ true
then_gain true c o t e f g h = clash refl f
then_gain false true o t e f g h = clash refl g
then_gain false false o t e f g h = e ∙ h

neither_case : (a b : Bool) → (a && b) ≡ false → (a ≡ false) ⊎ (b ≡ false)
neither_case true b h = inr h
neither_case false b h = inl refl

right_false : (b : Bool) → b ≡ (b || false)
right_false true = refl
right_false false = refl

behind_is : (os : Ordereds) (b : Variables) (v : ℕ) → bound_behind b os v ≡ (b v || among (all_ordered_outputs os) v)
behind_is no_goals b v = right_false (b v)
behind_is (more_goals o os) b v =
    behind_is os (with b (among (ordered_outputs o))) v
    ∙ or_assoc (b v) (among (ordered_outputs o) v) (among (all_ordered_outputs os) v)
    ∙ ap (λ (k : Bool). b v || k) (sym (among_append v (ordered_outputs o) (all_ordered_outputs os)))

module _ (modes : ℕ → List ModeDecl) where
  -- Goals that hold no others.

  abbrev Lone : Step → Type 0
  Lone (Sequence goals) = ⊥
  Lone (Beside goals) = ⊥
  Lone (Choice goals) = ⊥
  Lone (Decision condition then_part else_part) = ⊥
  Lone (Denial goal) = ⊥
  Lone (Inside own goal) = ⊥
  Lone other = Unit {0}

  called_keeps : (found : Option ModeDecl) (arguments : List ℕ) (tests : List Bool) (outs : List ℕ) (out b : Variables) → Own out b (λ v. among arguments v) outs → GoodCall out b outs found arguments tests
      → AreWithin outs (written (inputs_in found) arguments tests)
  called_keeps None arguments tests outs out b own good = absurd good
  called_keeps (Some m) arguments tests outs out b own good = gained out b (λ v. among arguments v) outs (written m.args arguments tests) own good.2.2

  lone_keeps : (s : Step) (outs : List ℕ) (out b : Variables) → Lone s → Own out b (in_step s) outs → GoodStep modes out b outs s → StepKeepsOutputs modes outs s
  lone_keeps Truth outs out b l own good = tt
  lone_keeps Failure outs out b l own good = tt
  lone_keeps (Assign to from) outs out b l own good = tt
  lone_keeps (Test one other) outs out b l own good = tt
  lone_keeps (Build whole symbol arguments) outs out b l own good = tt
  lone_keeps (Split whole symbol arguments tests) outs out b l own good = gained out b (in_step (Split whole symbol arguments tests)) outs (untested_places arguments tests) own good.1.2
  lone_keeps (Computed operation result left right tests) outs out b l own good =
      gained out b (in_step (Computed operation result left right tests)) outs (untested_places (result ∷ []) tests) own good.2.2
  lone_keeps (Compared comparison left right) outs out b l own good = tt
  lone_keeps (Raised text) outs out b l own good = tt
  lone_keeps (Called predicate mode arguments tests) outs out b l own good = called_keeps (slice_get (modes predicate) mode) arguments tests outs out b own good
  lone_keeps (Sequence goals) outs out b l own good = absurd l
  lone_keeps (Beside goals) outs out b l own good = absurd l
  lone_keeps (Choice goals) outs out b l own good = absurd l
  lone_keeps (Decision condition then_part else_part) outs out b l own good = absurd l
  lone_keeps (Denial goal) outs out b l own good = absurd l
  lone_keeps (Inside own_list goal) outs out b l own good = absurd l

  -- Goals that hold others.

  list_has : (os : Ordereds) (outs : List ℕ) (out b : Variables) → Own out b (in_ordereds os) outs → Binds out (in_ordereds os) b outs (bound_behind b os) → AreWithin outs (all_ordered_outputs os)
  list_has os outs out b own h = gained out b (in_ordereds os) outs (all_ordered_outputs os) own (λ v i o. sym (behind_is os b v) ∙ h v i o)

  arm_has : (o : Ordered) (outs : List ℕ) (out b occ : Variables) → Own out b occ outs → ArmBinds (ends modes o) out occ b outs (with b (among (ordered_outputs o))) → OrderedArmHas modes outs o
  arm_has o outs out b occ own (inl h) = inl h
  arm_has o outs out b occ own (inr h) = inr (gained out b occ outs (ordered_outputs o) own h)

  each_has : (os : Ordereds) (outs : List ℕ) (out b occ : Variables) → Own out b occ outs → EachBinds modes out occ b outs os → AllOrderedKeepOutputs modes os → EachOrderedKeepsOutputs modes outs os
  each_has no_goals outs out b occ own h all = tt
  each_has (more_goals o os) outs out b occ own h all = ((all.0, arm_has o outs out b occ own h.0), each_has os outs out b occ own h.1 all.1)

  then_has : (c t : Ordered) (outs : List ℕ) (out b occ : Variables) → Own out b occ outs → ((v : ℕ) → out v ≡ true → among (ordered_outputs c) v ≡ false)
      → ArmBinds (ends modes c && ends modes t) out occ b outs (with (with b (among (ordered_outputs c))) (among (ordered_outputs t))) → (ends modes c ≡ false) ⊎ OrderedArmHas modes outs t
  then_has c t outs out b occ own none (inl h) = elim (neither_case (ends modes c) (ends modes t) h) as (λ _. (ends modes c ≡ false) ⊎ OrderedArmHas modes outs t) [ inl k ↦ inl k | inr k ↦ inr (inl k) ]
  then_has c t outs out b occ own none (inr h) = inr (inr (λ v k.
      then_gain (b v) (among (ordered_outputs c) v) (among outs v) (among (ordered_outputs t) v) (h v (own.occurs v k) (own.outer v k)) (own.free v k) (none v (own.outer v k)) k))

  -- Moves.

  abbrev MoveKeeps : Move → Type 0
  MoveKeeps move = (bound : Bound) (o : Ordered) → move.from bound ≡ Ready o → OrderedKeepsOutputs modes o

  record Parted (move : Move) (others : List Move) : Type 0 where
    one : MoveKeeps move
    rest : AllByRecursion MoveKeeps others

  removed_keeps : (move : Move) (all others : List Move) → Removed move all others → AllByRecursion MoveKeeps all → Parted move others
  removed_keeps move all others (here m o) a = record { one = a.0; rest = a.1 }
  removed_keeps move all others (later f m c o r) a = let p = removed_keeps move c o r a.1 in record { one = p.one; rest = (a.0, p.rest) }

  fault_keeps : (first : Outcome) (os : Ordereds) → fault_in first ≡ AllReady os → AllOrderedKeepOutputs modes os
  fault_keeps (Ready g) os h = subst (λ (z : Ordereds). AllOrderedKeepOutputs modes z) (all_ready_is no_goals os h) tt
  fault_keeps (Stuck f) os h = one_stuck_not f os h

  settled_step : (left : ℕ) (all : List Move) → AllByRecursion MoveKeeps all → (bound : Bound) (os : Ordereds) (first : Outcome) (found : Option Next) → next all bound ≡ found
      → ((others : List Move) → AllByRecursion MoveKeeps others → (now : Bound) (r : Ordereds) → settled left others now ≡ AllReady r → AllOrderedKeepOutputs modes r)
      → settled_next first bound found (settled left) ≡ AllReady os → AllOrderedKeepOutputs modes os
  settled_step left all a bound os first None e again h = fault_keeps first os h
  settled_step left all a bound os first (Some found) e again h =
      let i = next_is all bound found e in
      let p = removed_keeps i.move all found.others i.removed a in
      let (r, q, z) = then_all_is found.goal (settled left found.others (with bound found.binds)) os h in
      subst (λ (k : Ordereds). AllOrderedKeepOutputs modes k) z (p.one bound found.goal i.outcome, again found.others p.rest (with bound found.binds) r q)

  settled_keeps : (left : ℕ) (all : List Move) → AllByRecursion MoveKeeps all → (bound : Bound) (os : Ordereds) → settled left all bound ≡ AllReady os → AllOrderedKeepOutputs modes os
  settled_keeps left [] a bound os e = subst (λ (z : Ordereds). AllOrderedKeepOutputs modes z) (all_ready_is no_goals os e) tt
  settled_keeps zero (m ∷ ms) a bound os e = subst (λ (z : Ordereds). AllOrderedKeepOutputs modes z) (all_ready_is no_goals os e) tt
  settled_keeps (suc left) (m ∷ ms) a bound os e =
      settled_step left (m ∷ ms) a bound os (m.from bound) (next (m ∷ ms) bound) refl (λ others b now r f. settled_keeps left others b now r f) e

  beside_keeps : (all : List Move) → AllByRecursion MoveKeeps all → (number : ℕ) (bound : Bound) (os : Ordereds) → beside number all bound ≡ AllReady os → AllOrderedKeepOutputs modes os
  beside_keeps [] a number bound os e = subst (λ (z : Ordereds). AllOrderedKeepOutputs modes z) (all_ready_is no_goals os e) tt
  beside_keeps (m ∷ ms) a number bound os e =
      let (g, r, p, q, z) = beside_is number m ms bound (m.from bound) (beside (number + 1) ms (with bound m.binds)) os e in
      subst (λ (k : Ordereds). AllOrderedKeepOutputs modes k) z (a.0 bound g p, beside_keeps ms a.1 (number + 1) (with bound m.binds) r q)

  each_keeps : (all : List Move) → AllByRecursion MoveKeeps all → (bound : Bound) (os : Ordereds) → each_from all bound ≡ AllReady os → AllOrderedKeepOutputs modes os
  each_keeps [] a bound os e = subst (λ (z : Ordereds). AllOrderedKeepOutputs modes z) (all_ready_is no_goals os e) tt
  each_keeps (m ∷ ms) a bound os e =
      let (g, r, p, q, z) = and_all_is (m.from bound) (each_from ms bound) os e in
      subst (λ (k : Ordereds). AllOrderedKeepOutputs modes k) z (a.0 bound g p, each_keeps ms a.1 bound r q)

  module _ (total : ℕ → ℕ) where
    -- no variable stands here more often than in the whole
    abbrev pub Counted : List ℕ → Type 0
    Counted inside = (v : ℕ) → count v inside ≤ total v

    left_counted : (xs ys : List ℕ) → Counted (xs ++ ys) → Counted xs
    left_counted xs ys c v = omega (arith, c v, count_append v xs ys)

    right_counted : (xs ys : List ℕ) → Counted (xs ++ ys) → Counted ys
    right_counted xs ys c v = omega (arith, c v, count_append v xs ys)

    -- A goal that has become this is good where those of its variables occur outside it that do by their number, and so do its outputs.
    record Whole (m : Node) (bound : Bound) (s : Step) (outs : List ℕ) : Type 0 where
      own : Own (outside total modes (variables m)) bound (in_step s) outs
      good : GoodStep modes (outside total modes (variables m)) bound outs s

    whole : (m : Node) → Sized modes m → Counted (variables m) → (bound : Bound) (s : Step) (outs : List ℕ) (at : Span) → from total modes m bound ≡ Ready (put s outs at) → Whole m bound s outs
    whole m l c bound s outs at h =
        let f = from_fits total modes m l bound (put s outs at) h in
        let g = f.good (outside total modes (variables m)) bound (λ v i. refl, c) (λ v i. refl) in
        let inner : (v : ℕ) → among outs v ≡ true → (binds total modes m v && (not (bound v) && outside total modes (variables m) v)) ≡ true =
        λ v k. and_right (among (variables m) v) (binds total modes m v && (not (bound v) && outside total modes (variables m) v))
        (sym (among_outputs total modes bound (variables m) (binds total modes m) v) ∙ sym (f.outs v) ∙ k) in
        let both : (v : ℕ) → among outs v ≡ true → (not (bound v) && outside total modes (variables m) v) ≡ true =
        λ v k. and_right (binds total modes m v) (not (bound v) && outside total modes (variables m) v) (inner v k) in
        record {
          own = record {
            occurs = g.0;
            outer = λ v k. and_right (not (bound v)) (outside total modes (variables m) v) (both v k);
            free = λ v k. not_bound (bound v) (and_left (not (bound v)) (outside total modes (variables m) v) (both v k));
          };
          good = g.2;
        } where
          not_bound : (b : Bool) → not b ≡ true → b ≡ false
          not_bound true h = clash h refl
          not_bound false h = refl

    -- what becomes of a goal that holds no others holds no others

    abbrev IsLone : Ordered → Type 0
    IsLone (put s outs at) = Lone s

    lone_moved : (g o : Ordered) → Ready g ≡ Ready o → IsLone g → IsLone o
    lone_moved g o e h = subst IsLone (ready_is g o e) h

    same_lone : (one other : ℕ) (a b : Bool) (outs : List ℕ) (at : Span) (o : Ordered) → same_from total modes one other a b outs at ≡ Ready o → IsLone o
    same_lone one other true true outs at o h = lone_moved (put (Test one other) outs at) o h tt
    same_lone one other true false outs at o h = lone_moved (put (Assign other one) outs at) o h tt
    same_lone one other false true outs at o h = lone_moved (put (Assign one other) outs at) o h tt
    same_lone one other false false outs at o h = stuck_not (never_ready at) o h

    called_lone : (bound : Bound) (p : ℕ) (args : List ℕ) (taken : Option (ℕ × ModeDecl)) (outs : List ℕ) (at : Span) (o : Ordered) → called_from total modes bound p args taken outs at ≡ Ready o → IsLone o
    called_lone bound p args None outs at o h = stuck_not (never_ready at) o h
    called_lone bound p args (Some taken) outs at o h = lone_moved (put (Called p taken.0 args (call_tested bound taken.1.args args)) outs at) o h tt

    asked_lone : (b : Bool) (g o : Ordered) (at : Span) → (if b then Ready g else Stuck (never_ready at)) ≡ Ready o → IsLone g → IsLone o
    asked_lone b g o at h k = subst IsLone (if_is b g o (never_ready at) h).1 k

    simple_lone : (g : SimpleGoal) (at : Span) (bound : Bound) (outs : List ℕ) (o : Ordered) → simple_from total modes g outs at bound ≡ Ready o → IsLone o
    simple_lone True at bound outs o h = lone_moved (put Truth outs at) o h tt
    simple_lone Fail at bound outs o h = lone_moved (put Failure outs at) o h tt
    simple_lone (Same one other) at bound outs o h = same_lone one other (bound one) (bound other) outs at o h
    simple_lone (Shape x c ys) at bound outs o h =
        elim (chosen (bound x) (Ready (put (Split x c ys (tested bound ys)) outs at)) (if are_bound bound ys then Ready (put (Build x c ys) outs at) else Stuck (never_ready at)) (Ready o) h) as (λ _. IsLone o) [
          | inl k ↦ lone_moved (put (Split x c ys (tested bound ys)) outs at) o k.1 tt
          | inr k ↦ asked_lone (are_bound bound ys) (put (Build x c ys) outs at) o at k.1 tt
        ]
    simple_lone (Arithmetic op z x y) at bound outs o h = asked_lone (bound x && bound y) (put (Computed op z x y (tested bound (z ∷ []))) outs at) o at h tt
    simple_lone (Compare op x y) at bound outs o h = asked_lone (bound x && bound y) (put (Compared op x y) outs at) o at h tt
    simple_lone (Raise x) at bound outs o h = asked_lone (bound x) (put (Raised x) outs at) o at h tt
    simple_lone (Call p args) at bound outs o h = called_lone bound p args (taken_from 0 bound args (modes p)) outs at o h

    simple_keeps : (g : SimpleGoal) (at : Span) → Sized modes (Simple g at) → Counted (variables (Simple g at)) → (bound : Bound) (o : Ordered) → from total modes (Simple g at) bound ≡ Ready o → OrderedKeepsOutputs modes o
    simple_keeps g at l c bound (put s outs place) h =
        let w = whole (Simple g at) l c bound s outs place h in
        lone_keeps s outs (outside total modes (variables_of g)) bound (simple_lone g at bound (outputs total modes bound (variables_of g) (binds total modes (Simple g at))) (put s outs place) h) w.own w.good

    -- a goal and what it becomes, where that is told
    become : (m : Node) (bound : Bound) (g o : Ordered) → from total modes m bound ≡ Ready o → g ≡ o → (from total modes m bound ≡ Ready g → OrderedKeepsOutputs modes g) → OrderedKeepsOutputs modes o
    become m bound g o h e f = subst (λ (z : Ordered). OrderedKeepsOutputs modes z) e (f (h ∙ ap (λ (z : Ordered). Ready z) (sym e)))

    decision_keeps : (c t r : Node) (at : Span) → Sized modes (Conditional c t r at) → Counted (variables (Conditional c t r at)) → (bound : Bound) (oc ot oe : Ordered) (outs : List ℕ)
        → from total modes (Conditional c t r at) bound ≡ Ready (put (Decision oc ot oe) outs at) → OrderedKeepsOutputs modes oc → OrderedKeepsOutputs modes ot → OrderedKeepsOutputs modes oe
        → OrderedKeepsOutputs modes (put (Decision oc ot oe) outs at)
    decision_keeps c t r at l n bound oc ot oe outs h kc kt ke =
        let w = whole (Conditional c t r at) l n bound (Decision oc ot oe) outs at h in
        let out : Variables = outside total modes (variables (Conditional c t r at)) in (
          kc,
          (kt, then_has oc ot outs out bound (in_step (Decision oc ot oe)) w.own (λ v i. w.good.1 v (or_left (out v) (in_ordered oe v) i)) w.good.3),
          (ke, arm_has oe outs out bound (in_step (Decision oc ot oe)) w.own w.good.5),
        )

    mutual
      pub from_keeps : (m : Node) → Sized modes m → Counted (variables m) → (bound : Bound) (o : Ordered) → from total modes m bound ≡ Ready o → OrderedKeepsOutputs modes o
      from_keeps (Simple g at) l n bound o h = simple_keeps g at l n bound o h
      from_keeps (Conjunction goals at) l n bound o h =
          let outs : List ℕ = outputs total modes bound (all_variables goals) (binds total modes (Conjunction goals at)) in
          let (g, p, q) = if_all_ready_is (settled (length (moves total modes goals)) (moves total modes goals) bound) (λ all. Ready (put (Sequence all) outs at)) o h in
          become (Conjunction goals at) bound (put (Sequence g) outs at) o h (ready_is (put (Sequence g) outs at) o q) (λ i.
          let w = whole (Conjunction goals at) l n bound (Sequence g) outs at i in
          (settled_keeps (length (moves total modes goals)) (moves total modes goals) (all_keep goals l n) bound g p, list_has g outs (outside total modes (all_variables goals)) bound w.own w.good.1))
      from_keeps (Parallel goals at) l n bound o h =
          let outs : List ℕ = outputs total modes bound (all_variables goals) (binds total modes (Parallel goals at)) in
          let (g, p, q) = if_all_ready_is (beside 1 (moves total modes goals) bound) (λ all. Ready (put (Beside all) outs at)) o h in
          become (Parallel goals at) bound (put (Beside g) outs at) o h (ready_is (put (Beside g) outs at) o q) (λ i.
          let w = whole (Parallel goals at) l n bound (Beside g) outs at i in
          (beside_keeps (moves total modes goals) (all_keep goals l n) 1 bound g p, list_has g outs (outside total modes (all_variables goals)) bound w.own w.good.1))
      from_keeps (Disjunction goals at) l n bound o h =
          let outs : List ℕ = outputs total modes bound (all_variables goals) (binds total modes (Disjunction goals at)) in
          let (g, p, q) = if_all_ready_is (each_from (moves total modes goals) bound) (λ all.
          if agree total modes bound (all_variables goals) (arms total modes goals) then Ready (put (Choice all) outs at) else Stuck (unbound_output at)) o h in
          let k = if_is (agree total modes bound (all_variables goals) (arms total modes goals)) (put (Choice g) outs at) o (unbound_output at) q in
          become (Disjunction goals at) bound (put (Choice g) outs at) o h k.1 (λ i.
          let w = whole (Disjunction goals at) l n bound (Choice g) outs at i in
          each_has g outs (outside total modes (all_variables goals)) bound (in_ordereds g) w.own w.good.1 (each_keeps (moves total modes goals) (all_keep goals l n) bound g p))
      from_keeps (Conditional c t r at) l n bound o h =
          let outs : List ℕ = outputs total modes bound (variables (Conditional c t r at)) (binds total modes (Conditional c t r at)) in
          let (oc, p, q) = if_ready_is (from total modes c bound) (λ first.
          if binds_inside total modes bound (variables c ++ variables t) (variables c) (binds total modes c)
          then if_ready (from total modes t (with bound (binds total modes c))) (λ second. if_ready (from total modes r bound) (λ third.
          if agree total modes bound (variables (Conditional c t r at)) (decision_arms total modes c t r) then Ready (put (Decision first second third) outs at) else Stuck (unbound_output at)))
          else Stuck (binds_outer (span_of c))) o h in
          let q1 = if_then (binds_inside total modes bound (variables c ++ variables t) (variables c) (binds total modes c)) (if_ready (from total modes t (with bound (binds total modes c))) (λ second. if_ready (from total modes r bound) (λ third.
          if agree total modes bound (variables (Conditional c t r at)) (decision_arms total modes c t r) then Ready (put (Decision oc second third) outs at) else Stuck (unbound_output at)))) (binds_outer (span_of c)) o q in
          let (ot, p2, q2) = if_ready_is (from total modes t (with bound (binds total modes c))) (λ second. if_ready (from total modes r bound) (λ third.
          if agree total modes bound (variables (Conditional c t r at)) (decision_arms total modes c t r) then Ready (put (Decision oc second third) outs at) else Stuck (unbound_output at))) o q1.1 in
          let (oe, p3, q3) = if_ready_is (from total modes r bound) (λ third.
          if agree total modes bound (variables (Conditional c t r at)) (decision_arms total modes c t r) then Ready (put (Decision oc ot third) outs at) else Stuck (unbound_output at)) o q2 in
          let k = if_is (agree total modes bound (variables (Conditional c t r at)) (decision_arms total modes c t r)) (put (Decision oc ot oe) outs at) o (unbound_output at) q3 in
          let rest : Counted (variables t ++ variables r) = right_counted (variables c) (variables t ++ variables r) n in
          let kc = from_keeps c l.0 (left_counted (variables c) (variables t ++ variables r) n) bound oc p in
          let kt = from_keeps t l.1 (left_counted (variables t) (variables r) rest) (with bound (binds total modes c)) ot p2 in
          let ke = from_keeps r l.2 (right_counted (variables t) (variables r) rest) bound oe p3 in
          become (Conditional c t r at) bound (put (Decision oc ot oe) outs at) o h k.1 (λ i. decision_keeps c t r at l n bound oc ot oe outs i kc kt ke)
      from_keeps (Negation goal at) l n bound o h =
          let (g, p, q) = if_ready_is (from total modes goal bound) (λ inner. if binds_inside total modes bound (variables goal) (variables goal) (binds total modes goal) then Ready (put (Denial inner) [] at) else Stuck (binds_outer at)) o h in
          let k = if_is (binds_inside total modes bound (variables goal) (variables goal) (binds total modes goal)) (put (Denial g) [] at) o (binds_outer at) q in
          subst (λ (z : Ordered). OrderedKeepsOutputs modes z) k.1 (from_keeps goal l n bound g p, refl)
      from_keeps (Quantified own goal at) l n bound o h =
          let outs : List ℕ = outputs total modes bound (variables goal) (binds total modes (Quantified own goal at)) in
          let (g, p, q) = if_ready_is (from total modes goal bound) (λ inner. Ready (put (Inside own inner) outs at)) o h in
          become (Quantified own goal at) bound (put (Inside own g) outs at) o h (ready_is (put (Inside own g) outs at) o q) (λ i.
          let w = whole (Quantified own goal at) l n bound (Inside own g) outs at i in
          (from_keeps goal l n bound g p, gained (outside total modes (variables goal)) bound (in_ordered g) outs (ordered_outputs g) w.own w.good.1))

      all_keep : (ms : Nodes) → AllSized modes ms → Counted (all_variables ms) → AllByRecursion MoveKeeps (moves total modes ms)
      all_keep no_nodes l n = tt
      all_keep (more_nodes m ms) l n =
          (λ bound o e. from_keeps m l.0 (left_counted (variables m) (all_variables ms) n) bound o e, all_keep ms l.1 (right_counted (variables m) (all_variables ms) n))
