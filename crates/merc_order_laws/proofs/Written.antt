-- Each goal of an ordered goal is one of the goal as it is written, or a test of a variable against the one that it stands for.
use Rattle.std.proofs.Common.{◌≡◌, ℕ, zero, suc, ◌+◌, Bool, true, false, ◌&&◌, if◌then◌else◌, List, [], ◌∷◌, ◌++◌, length, Option, Some, None, refl, ap, subst, ◌∙◌, arith}
use Rattle.std.specs.List.{AllByRecursion, Contains}
use Rattle.merc_base.specs.declared.place.Span.{Span}
use Rattle.merc_base.specs.declared.refusal.Refusal.{Refusal}
use Rattle.merc_tree.specs.declared.declarations.ModeDecl.{ModeDecl}
use Rattle.merc_goal_tree.specs.declared.goal.SimpleGoal.{SimpleGoal}
use Rattle.merc_goal_tree.specs.declared.goal.SimpleGoal.TheVariants.{True, Fail, Same, Shape, Arithmetic, Compare, Raise, Call}
use Rattle.merc_goal_tree.specs.declared.goal.Symbol.{Symbol}
use Rattle.merc_goal_tree.specs.Nodes.{Node, Nodes, Simple, Conjunction, Parallel, Disjunction, Conditional, Negation, Quantified, no_nodes, more_nodes, span_of}
use Rattle.merc_goal_tree.specs.Variables.{variables, all_variables}
use Rattle.merc_order.specs.Bound.{Bound, with, are_bound}
use Rattle.merc_order.specs.CallModes.{taken_from, tested, call_tested}
use Rattle.merc_order.specs.Faults.{never_ready, binds_outer, unbound_output}
use Rattle.merc_order.specs.Moves.{Move, Next, next, fault_in, settled, settled_next, beside, each_from}
use Rattle.merc_order.specs.Order.{binds, arms, decision_arms, binds_inside, agree, outputs_of, same_from, called_from, simple_from, from, moves}
use Rattle.merc_order.specs.Ordered.{Ordered, Step, Ordereds, put, Truth, Failure, Assign, Test, Build, Split, Computed, Compared, Raised, Called, Sequence, Beside, Choice, Decision, Denial, Within as Inside, no_goals, more_goals, Outcome, Ready, Stuck, AllReady, if_ready}
use Rattle.merc_order.specs.Ways.{Removed, here, later}
use Rattle.merc_order.proofs.MoveLaws.{next_is}
use Rattle.merc_order_laws.specs.WrittenGoals.{simple_goals, all_simple_goals}
use Rattle.merc_order_laws.specs.MadeOf.{StandsFor, as_written, turned_round, with_itself}
use Rattle.merc_order_laws.proofs.Ordering.{ready_is, all_ready_is, stuck_not, one_stuck_not, if_ready_is, if_all_ready_is, then_all_is, and_all_is, beside_is, if_is, if_then}

-- Lists.

pub all_left : {X : Type 0} (P : X → Type 0) (xs ys : List X) → AllByRecursion P (xs ++ ys) → AllByRecursion P xs
all_left P [] ys h = tt
all_left P (x ∷ xs) ys h = (h.0, all_left P xs ys h.1)

pub all_right : {X : Type 0} (P : X → Type 0) (xs ys : List X) → AllByRecursion P (xs ++ ys) → AllByRecursion P ys
all_right P [] ys h = h
all_right P (x ∷ xs) ys h = all_right P xs ys h.1

pub all_joined : {X : Type 0} (P : X → Type 0) (xs ys : List X) → AllByRecursion P xs → AllByRecursion P ys → AllByRecursion P (xs ++ ys)
all_joined P [] ys h k = k
all_joined P (x ∷ xs) ys h k = (h.0, all_joined P xs ys h.1 k)

contained : (xs ys : List SimpleGoal) → ((g : SimpleGoal) → Contains xs g → StandsFor ys g) → AllByRecursion (λ g. StandsFor ys g) xs
contained [] ys f = tt
contained (x ∷ xs) ys f = (f x (0, omega (arith), refl), contained xs ys (λ g c. f g (suc c.0, omega (arith, c.1), c.2)))

pub all_stand : (xs : List SimpleGoal) → AllByRecursion (λ g. StandsFor xs g) xs
all_stand xs = contained xs xs (λ g c. as_written g c)

pub turned_stand : (xs : List SimpleGoal) (one other : ℕ) (g : SimpleGoal) → StandsFor xs g → g ≡ Same one other → StandsFor xs (Same other one)
turned_stand xs one other g (as_written h c) e = turned_round one other (subst (λ (z : SimpleGoal). Contains xs z) e c)
turned_stand xs one other g (turned_round a b c) e =
    subst (λ (z : SimpleGoal). StandsFor xs z) (ap (λ (z : ℕ). Same z b) (same_second b a one other e) ∙ ap (λ (z : ℕ). Same other z) (same_first b a one other e)) (as_written (Same a b) c) where
      same_first : (p q r s : ℕ) → Same p q ≡ Same r s → p ≡ r
      same_first p q r s h = cc

      same_second : (p q r s : ℕ) → Same p q ≡ Same r s → q ≡ s
      same_second p q r s h = cc
turned_stand xs one other g (with_itself v) e =
    subst (λ (z : SimpleGoal). StandsFor xs z) (ap (λ (z : ℕ). Same z v) (same_second v v one other e) ∙ ap (λ (z : ℕ). Same other z) (same_first v v one other e)) (with_itself v) where
      same_first : (p q r s : ℕ) → Same p q ≡ Same r s → p ≡ r
      same_first p q r s h = cc

      same_second : (p q r s : ℕ) → Same p q ≡ Same r s → q ≡ s
      same_second p q r s h = cc

-- An ordered goal's goals as they would be written.
module _ (P : SimpleGoal → Type 0) where
  abbrev mutual
    pub EachStep : Ordered → Type 0
    EachStep (put step outputs span) = EachIn step

    pub EachIn : Step → Type 0
    EachIn Truth = P True
    EachIn Failure = P Fail
    EachIn (Assign to from) = P (Same to from)
    EachIn (Test one other) = P (Same one other)
    EachIn (Build whole symbol arguments) = P (Shape whole symbol arguments)
    EachIn (Split whole symbol arguments tests) = P (Shape whole symbol arguments)
    EachIn (Computed operation result left right tests) = P (Arithmetic operation result left right)
    EachIn (Compared comparison left right) = P (Compare comparison left right)
    EachIn (Raised text) = P (Raise text)
    EachIn (Called predicate mode arguments tests) = P (Call predicate arguments)
    EachIn (Sequence goals) = EachOf goals
    EachIn (Beside goals) = EachOf goals
    EachIn (Choice goals) = EachOf goals
    EachIn (Decision c t e) = EachStep c × EachStep t × EachStep e
    EachIn (Denial goal) = EachStep goal
    EachIn (Inside own goal) = EachStep goal

    pub EachOf : Ordereds → Type 0
    EachOf no_goals = Unit {0}
    EachOf (more_goals first rest) = EachStep first × EachOf rest

  abbrev MoveHas : Move → Type 0
  MoveHas move = (bound : Bound) (o : Ordered) → move.from bound ≡ Ready o → EachStep o

  removed_has : (move : Move) (all others : List Move) → Removed move all others → AllByRecursion MoveHas all → MoveHas move × AllByRecursion MoveHas others
  removed_has move all others (here m o) h = h
  removed_has move all others (later f m a o r) h = let k = removed_has move a o r h.1 in (k.0, (h.0, k.1))

  fault_has : (x : Outcome) (os : Ordereds) → fault_in x ≡ AllReady os → EachOf os
  fault_has (Ready g) os h = subst (λ (z : Ordereds). EachOf z) (all_ready_is no_goals os h) tt
  fault_has (Stuck x) os h = one_stuck_not x os h

  settled_step : (left : ℕ) (ms : List Move) → AllByRecursion MoveHas ms → (bound : Bound) (os : Ordereds) (first : Outcome) (found : Option Next) → next ms bound ≡ found
      → ((rest : List Move) → AllByRecursion MoveHas rest → (now : Bound) (r : Ordereds) → settled left rest now ≡ AllReady r → EachOf r) → settled_next first bound found (settled left) ≡ AllReady os → EachOf os
  settled_step left ms a bound os first None e again h = fault_has first os h
  settled_step left ms a bound os first (Some found) e again h =
      let i = next_is ms bound found e in
      let k = removed_has i.move ms found.others i.removed a in
      let (r, p, z) = then_all_is found.goal (settled left found.others (with bound found.binds)) os h in
      subst (λ (l : Ordereds). EachOf l) z (k.0 bound found.goal i.outcome, again found.others k.1 (with bound found.binds) r p)

  settled_has : (left : ℕ) (ms : List Move) → AllByRecursion MoveHas ms → (bound : Bound) (os : Ordereds) → settled left ms bound ≡ AllReady os → EachOf os
  settled_has left [] a bound os h = subst (λ (z : Ordereds). EachOf z) (all_ready_is no_goals os h) tt
  settled_has zero (m ∷ ms) a bound os h = subst (λ (z : Ordereds). EachOf z) (all_ready_is no_goals os h) tt
  settled_has (suc left) (m ∷ ms) a bound os h = settled_step left (m ∷ ms) a bound os (m.from bound) (next (m ∷ ms) bound) refl (λ rest b now r k. settled_has left rest b now r k) h

  beside_has : (number : ℕ) (ms : List Move) → AllByRecursion MoveHas ms → (bound : Bound) (os : Ordereds) → beside number ms bound ≡ AllReady os → EachOf os
  beside_has number [] a bound os h = subst (λ (z : Ordereds). EachOf z) (all_ready_is no_goals os h) tt
  beside_has number (m ∷ ms) a bound os h =
      let (g, r, p, q, z) = beside_is number m ms bound (m.from bound) (beside (number + 1) ms (with bound m.binds)) os h in
      subst (λ (l : Ordereds). EachOf l) z (a.0 bound g p, beside_has (number + 1) ms a.1 (with bound m.binds) r q)

  each_has : (ms : List Move) → AllByRecursion MoveHas ms → (bound : Bound) (os : Ordereds) → each_from ms bound ≡ AllReady os → EachOf os
  each_has [] a bound os h = subst (λ (z : Ordereds). EachOf z) (all_ready_is no_goals os h) tt
  each_has (m ∷ ms) a bound os h =
      let (g, r, p, q, z) = and_all_is (m.from bound) (each_from ms bound) os h in
      subst (λ (l : Ordereds). EachOf l) z (a.0 bound g p, each_has ms a.1 bound r q)

  moved_has : (g o : Ordered) → Ready g ≡ Ready o → EachStep g → EachStep o
  moved_has g o e h = subst (λ (z : Ordered). EachStep z) (ready_is g o e) h

  if_has : (b : Bool) (s : Step) (outs : List ℕ) (at : Span) (f : Refusal) (o : Ordered) → (if b then Ready (put s outs at) else Stuck f) ≡ Ready o → EachIn s → EachStep o
  if_has b s outs at f o h k = subst (λ (z : Ordered). EachStep z) (if_is b (put s outs at) o f h).1 k

  same_has : (total : ℕ → ℕ) (modes : ℕ → List ModeDecl) (one other : ℕ) (a b : Bool) (outs : List ℕ) (at : Span) (o : Ordered) → same_from total modes one other a b outs at ≡ Ready o → P (Same one other) → P (Same other one) → EachStep o
  same_has total modes one other true true outs at o h p q = moved_has (put (Test one other) outs at) o h p
  same_has total modes one other true false outs at o h p q = moved_has (put (Assign other one) outs at) o h q
  same_has total modes one other false true outs at o h p q = moved_has (put (Assign one other) outs at) o h p
  same_has total modes one other false false outs at o h p q = stuck_not (never_ready at) o h

  call_has : (total : ℕ → ℕ) (modes : ℕ → List ModeDecl) (bound : Bound) (predicate : ℕ) (arguments : List ℕ) (t : Option (ℕ × ModeDecl)) (outs : List ℕ) (at : Span) (o : Ordered) → called_from total modes bound predicate arguments t outs at ≡ Ready o
      → P (Call predicate arguments) → EachStep o
  call_has total modes bound predicate arguments None outs at o h p = stuck_not (never_ready at) o h
  call_has total modes bound predicate arguments (Some t) outs at o h p = moved_has (put (Called predicate t.0 arguments (call_tested bound t.1.args arguments)) outs at) o h p

  shape_has : (whole : ℕ) (symbol : Symbol) (arguments : List ℕ) (a b : Bool) (tests : List Bool) (outs : List ℕ) (at : Span) (o : Ordered)
      → (if a then Ready (put (Split whole symbol arguments tests) outs at) else if b then Ready (put (Build whole symbol arguments) outs at) else Stuck (never_ready at)) ≡ Ready o → P (Shape whole symbol arguments) → EachStep o
  shape_has whole symbol arguments true b tests outs at o h p = moved_has (put (Split whole symbol arguments tests) outs at) o h p
  shape_has whole symbol arguments false b tests outs at o h p = if_has b (Build whole symbol arguments) outs at (never_ready at) o h p

  module _ (total : ℕ → ℕ) (modes : ℕ → List ModeDecl) (turn : (one other : ℕ) → P (Same one other) → P (Same other one)) where
    simple_has : (goal : SimpleGoal) (outs : List ℕ) (at : Span) (bound : Bound) (o : Ordered) → simple_from total modes goal outs at bound ≡ Ready o → P goal → EachStep o
    simple_has True outs at bound o h p = moved_has (put Truth outs at) o h p
    simple_has Fail outs at bound o h p = moved_has (put Failure outs at) o h p
    simple_has (Same one other) outs at bound o h p = same_has total modes one other (bound one) (bound other) outs at o h p (turn one other p)
    simple_has (Shape whole symbol arguments) outs at bound o h p = shape_has whole symbol arguments (bound whole) (are_bound bound arguments) (tested bound arguments) outs at o h p
    simple_has (Arithmetic operation result left right) outs at bound o h p = if_has (bound left && bound right) (Computed operation result left right (tested bound (result ∷ []))) outs at (never_ready at) o h p
    simple_has (Compare comparison left right) outs at bound o h p = if_has (bound left && bound right) (Compared comparison left right) outs at (never_ready at) o h p
    simple_has (Raise text) outs at bound o h p = if_has (bound text) (Raised text) outs at (never_ready at) o h p
    simple_has (Call predicate arguments) outs at bound o h p = call_has total modes bound predicate arguments (taken_from 0 bound arguments (modes predicate)) outs at o h p

    mutual
      pub from_has : (m : Node) → AllByRecursion P (simple_goals m) → (bound : Bound) (o : Ordered) → from total modes m bound ≡ Ready o → EachStep o
      from_has (Simple goal at) a bound o h = simple_has goal (outputs_of total modes bound (Simple goal at)) at bound o h a.0
      from_has (Conjunction goals at) a bound o h =
          let (g, p, q) = if_all_ready_is (settled (length (moves total modes goals)) (moves total modes goals) bound) (λ all. Ready (put (Sequence all) (outputs_of total modes bound (Conjunction goals at)) at)) o h in
          moved_has (put (Sequence g) (outputs_of total modes bound (Conjunction goals at)) at) o q (settled_has (length (moves total modes goals)) (moves total modes goals) (moves_have goals a) bound g p)
      from_has (Parallel goals at) a bound o h =
          let (g, p, q) = if_all_ready_is (beside 1 (moves total modes goals) bound) (λ all. Ready (put (Beside all) (outputs_of total modes bound (Parallel goals at)) at)) o h in
          moved_has (put (Beside g) (outputs_of total modes bound (Parallel goals at)) at) o q (beside_has 1 (moves total modes goals) (moves_have goals a) bound g p)
      from_has (Disjunction goals at) a bound o h =
          let (g, p, q) = if_all_ready_is (each_from (moves total modes goals) bound) (λ all. if agree total modes bound (all_variables goals) (arms total modes goals) then Ready (put (Choice all) (outputs_of total modes bound (Disjunction goals at)) at) else Stuck (unbound_output at)) o h in
          if_has (agree total modes bound (all_variables goals) (arms total modes goals)) (Choice g) (outputs_of total modes bound (Disjunction goals at)) at (unbound_output at) o q (each_has (moves total modes goals) (moves_have goals a) bound g p)
      from_has (Conditional c t e at) a bound o h =
          let (oc, p, q) = if_ready_is (from total modes c bound) (λ first.
          if binds_inside total modes bound (variables c ++ variables t) (variables c) (binds total modes c)
          then if_ready (from total modes t (with bound (binds total modes c))) (λ second. if_ready (from total modes e bound) (λ third.
          if agree total modes bound (variables (Conditional c t e at)) (decision_arms total modes c t e)
          then Ready (put (Decision first second third) (outputs_of total modes bound (Conditional c t e at)) at) else Stuck (unbound_output at)))
          else Stuck (binds_outer (span_of c))) o h in
          let q1 = if_then (binds_inside total modes bound (variables c ++ variables t) (variables c) (binds total modes c)) (if_ready (from total modes t (with bound (binds total modes c))) (λ second. if_ready (from total modes e bound) (λ third.
          if agree total modes bound (variables (Conditional c t e at)) (decision_arms total modes c t e)
          then Ready (put (Decision oc second third) (outputs_of total modes bound (Conditional c t e at)) at) else Stuck (unbound_output at)))) (binds_outer (span_of c)) o q in
          let (ot, p2, q2) = if_ready_is (from total modes t (with bound (binds total modes c))) (λ second. if_ready (from total modes e bound) (λ third.
          if agree total modes bound (variables (Conditional c t e at)) (decision_arms total modes c t e)
          then Ready (put (Decision oc second third) (outputs_of total modes bound (Conditional c t e at)) at) else Stuck (unbound_output at))) o q1.1 in
          let (oe, p3, q3) = if_ready_is (from total modes e bound) (λ third.
          if agree total modes bound (variables (Conditional c t e at)) (decision_arms total modes c t e)
          then Ready (put (Decision oc ot third) (outputs_of total modes bound (Conditional c t e at)) at) else Stuck (unbound_output at)) o q2 in
          let a1 : AllByRecursion P (simple_goals t ++ simple_goals e) = all_right P (simple_goals c) (simple_goals t ++ simple_goals e) a in
          if_has (agree total modes bound (variables (Conditional c t e at)) (decision_arms total modes c t e)) (Decision oc ot oe) (outputs_of total modes bound (Conditional c t e at)) at (unbound_output at) o q3 (
            from_has c (all_left P (simple_goals c) (simple_goals t ++ simple_goals e) a) bound oc p,
            from_has t (all_left P (simple_goals t) (simple_goals e) a1) (with bound (binds total modes c)) ot p2,
            from_has e (all_right P (simple_goals t) (simple_goals e) a1) bound oe p3,
          )
      from_has (Negation goal at) a bound o h =
          let (g, p, q) = if_ready_is (from total modes goal bound) (λ inner. if binds_inside total modes bound (variables goal) (variables goal) (binds total modes goal) then Ready (put (Denial inner) [] at) else Stuck (binds_outer at)) o h in
          if_has (binds_inside total modes bound (variables goal) (variables goal) (binds total modes goal)) (Denial g) [] at (binds_outer at) o q (from_has goal a bound g p)
      from_has (Quantified own goal at) a bound o h =
          let (g, p, q) = if_ready_is (from total modes goal bound) (λ inner. Ready (put (Inside own inner) (outputs_of total modes bound (Quantified own goal at)) at)) o h in
          moved_has (put (Inside own g) (outputs_of total modes bound (Quantified own goal at)) at) o q (from_has goal a bound g p)

      moves_have : (ms : Nodes) → AllByRecursion P (all_simple_goals ms) → AllByRecursion MoveHas (moves total modes ms)
      moves_have no_nodes a = tt
      moves_have (more_nodes first rest) a = (
        (λ bound o h. from_has first (all_left P (simple_goals first) (all_simple_goals rest) a) bound o h),
        moves_have rest (all_right P (simple_goals first) (all_simple_goals rest) a),
      )
