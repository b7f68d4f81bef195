-- A goal that can be ordered can be ordered where more is bound.
use Rattle.std.specs.Prelude.{◌≡◌, ℕ, suc, ◌+◌, Bool, true, false, not, ◌&&◌, ◌||◌, List, [], ◌∷◌, ◌++◌, length, Option, Some, None, is_some, refl, if◌then◌else◌}
use Rattle.std.specs.List.{list_all}
use Rattle.std.proofs.Common.{◌∙◌, sym, subst}
use Rattle.merc_base.specs.declared.place.Span.{Span}
use Rattle.merc_base.specs.declared.refusal.Refusal.{Refusal}
use Rattle.merc_tree.specs.declared.declarations.ModeDecl.{ModeDecl}
use Rattle.merc_goal_tree.specs.declared.goal.SimpleGoal.{SimpleGoal}
use Rattle.merc_goal_tree.specs.declared.goal.SimpleGoal.TheVariants.{True, Fail, Same, Shape, Arithmetic, Compare, Raise, Call}
use Rattle.merc_goal_tree.specs.Nodes.{Node, Nodes, Simple, Conjunction, Parallel, Disjunction, Conditional, Negation, Quantified, no_nodes, more_nodes, span_of}
use Rattle.merc_goal_tree.specs.Variables.{variables, all_variables}
use Rattle.merc_order.specs.Bound.{Bound, with, Holds, are_bound}
use Rattle.merc_order.specs.CallModes.{inputs_of, wider, taken_from}
use Rattle.merc_order.specs.Faults.{never_ready, binds_outer, unbound_output}
use Rattle.merc_order.specs.Moves.{Move, beside, beside_next, each_from, settled}
use Rattle.merc_order.specs.Order.{Arm, differ_on, outside, binds, arms, decision_arms, binds_inside, agree, same_from, called_from, simple_from, from, moves}
use Rattle.merc_order.specs.Ordered.{Ordered, Ordereds, Outcome, Ready, Stuck, is_ready, Outcomes, AllReady, OneStuck, are_ready, and_all, if_ready, if_all_ready}
use Rattle.merc_order.proofs.MoveLaws.{holds_with, or_left, or_right, or_both, AreMonotone, then_all-ready, settled-more}

and_both : (a b c d : Bool) → (a ≡ true → c ≡ true) → (b ≡ true → d ≡ true) → (a && b) ≡ true → (c && d) ≡ true
and_both true b c d f g h = subst (λ x. (x && d) ≡ true) (sym (f refl)) (g h)
and_both false b c d f g h = cc

pub all-more : (all : List ℕ) (p q : ℕ → Bool) → ((v : ℕ) → p v ≡ true → q v ≡ true) → list_all (λ v. p v) all ≡ true → list_all (λ v. q v) all ≡ true
all-more [] p q f h = refl
all-more (v ∷ vs) p q f h = and_both (p v) (list_all (λ w. p w) vs) (q v) (list_all (λ w. q w) vs) (f v) (all-more vs p q f) h

if_ready-more : (o o' : Outcome) (f f' : Ordered → Outcome) → (is_ready o ≡ true → is_ready o' ≡ true) → ((g g' : Ordered) → is_ready (f g) ≡ true → is_ready (f' g') ≡ true)
    → is_ready (if_ready o f) ≡ true → is_ready (if_ready o' f') ≡ true
if_ready-more (Stuck x) o' f f' m n h = cc
if_ready-more (Ready g) (Ready g') f f' m n h = n g g' h
if_ready-more (Ready g) (Stuck x) f f' m n h = cc (m refl)

if_all_ready-more : (o o' : Outcomes) (f f' : Ordereds → Outcome) → (are_ready o ≡ true → are_ready o' ≡ true) → ((g g' : Ordereds) → is_ready (f g) ≡ true → is_ready (f' g') ≡ true)
    → is_ready (if_all_ready o f) ≡ true → is_ready (if_all_ready o' f') ≡ true
if_all_ready-more (OneStuck x) o' f f' m n h = cc
if_all_ready-more (AllReady g) (AllReady g') f f' m n h = n g g' h
if_all_ready-more (AllReady g) (OneStuck x) f f' m n h = cc (m refl)

if-more : (a b : Bool) (o o' : Outcome) (x y : Refusal) → (a ≡ true → b ≡ true) → (is_ready o ≡ true → is_ready o' ≡ true)
    → is_ready (if a then o else Stuck x) ≡ true → is_ready (if b then o' else Stuck y) ≡ true
if-more true true o o' x y m n h = n h
if-more true false o o' x y m n h = cc (m refl)
if-more false b o o' x y m n h = cc

each_step : (o o' : Outcome) (l l' : Outcomes) → (is_ready o ≡ true → is_ready o' ≡ true) → (are_ready l ≡ true → are_ready l' ≡ true) → are_ready (and_all o l) ≡ true → are_ready (and_all o' l') ≡ true
each_step (Stuck x) o' l l' m n h = cc
each_step (Ready g) (Stuck x) l l' m n h = cc (m refl)
each_step (Ready g) (Ready g') l l' m n h = then_all-ready g' l' ∙ n (sym (then_all-ready g l) ∙ h)

each_from-more : (ms : List Move) (bound more : Bound) → AreMonotone ms → Holds bound more → are_ready (each_from ms bound) ≡ true → are_ready (each_from ms more) ≡ true
each_from-more [] bound more mono h ready = refl
each_from-more (m ∷ ms) bound more (one, rest) h ready =
    each_step (m.from bound) (m.from more) (each_from ms bound) (each_from ms more) (one bound more h) (each_from-more ms bound more rest h) ready

beside_step : (number : ℕ) (move : Move) (ms : List Move) (bound more : Bound) (o o' : Outcome) (l l' : Outcomes) → (is_ready o ≡ true → is_ready o' ≡ true) → (are_ready l ≡ true → are_ready l' ≡ true)
    → are_ready (beside_next number move ms bound o l) ≡ true → are_ready (beside_next number move ms more o' l') ≡ true
beside_step number move ms bound more (Stuck x) o' l l' m n h = cc
beside_step number move ms bound more (Ready g) (Stuck x) l l' m n h = cc (m refl)
beside_step number move ms bound more (Ready g) (Ready g') l l' m n h = then_all-ready g' l' ∙ n (sym (then_all-ready g l) ∙ h)

beside-more : (number : ℕ) (ms : List Move) (bound more : Bound) → AreMonotone ms → Holds bound more → are_ready (beside number ms bound) ≡ true → are_ready (beside number ms more) ≡ true
beside-more number [] bound more mono h ready = refl
beside-more number (m ∷ ms) bound more (one, rest) h ready =
    beside_step number m ms bound more (m.from bound) (m.from more) (beside (number + 1) ms (with bound m.binds)) (beside (number + 1) ms (with more m.binds))
    (one bound more h) (beside-more (number + 1) ms (with bound m.binds) (with more m.binds) rest (holds_with bound more m.binds h)) ready

-- calls

taken_step : (a b : Bool) (number : ℕ) (m : ModeDecl) (l l' : Option (ℕ × ModeDecl)) → (a ≡ true → b ≡ true) → (is_some l ≡ true → is_some l' ≡ true)
    → is_some (if a then Some (wider number m l) else l) ≡ true → is_some (if b then Some (wider number m l') else l') ≡ true
taken_step a true number m l l' f g h = refl
taken_step true false number m l l' f g h = cc (f refl)
taken_step false false number m l l' f g h = g h

taken-more : (number : ℕ) (bound more : Bound) (arguments : List ℕ) (ms : List ModeDecl) → Holds bound more
    → is_some (taken_from number bound arguments ms) ≡ true → is_some (taken_from number more arguments ms) ≡ true
taken-more number bound more arguments [] h ready = ready
taken-more number bound more arguments (m ∷ ms) h ready =
    taken_step (are_bound bound (inputs_of m.args arguments)) (are_bound more (inputs_of m.args arguments)) number m
    (taken_from (suc number) bound arguments ms) (taken_from (suc number) more arguments ms)
    (all-more (inputs_of m.args arguments) bound more h) (taken-more (suc number) bound more arguments ms h) ready

called-more : (total : ℕ → ℕ) (modes : ℕ → List ModeDecl) (bound more : Bound) (predicate : ℕ) (arguments : List ℕ) (l l' : Option (ℕ × ModeDecl)) (outs outs' : List ℕ) (span : Span)
    → (is_some l ≡ true → is_some l' ≡ true)
    → is_ready (called_from total modes bound predicate arguments l outs span) ≡ true → is_ready (called_from total modes more predicate arguments l' outs' span) ≡ true
called-more total modes bound more predicate arguments None l' outs outs' span m h = cc
called-more total modes bound more predicate arguments (Some t) (Some t') outs outs' span m h = refl
called-more total modes bound more predicate arguments (Some t) None outs outs' span m h = cc (m refl)

same-more : (total : ℕ → ℕ) (modes : ℕ → List ModeDecl) (one other : ℕ) (a b c d : Bool) (outs outs' : List ℕ) (span : Span) → (a ≡ true → c ≡ true) → (b ≡ true → d ≡ true)
    → is_ready (same_from total modes one other a b outs span) ≡ true → is_ready (same_from total modes one other c d outs' span) ≡ true
same-more total modes one other a b true true outs outs' span f g h = refl
same-more total modes one other a b true false outs outs' span f g h = refl
same-more total modes one other a b false true outs outs' span f g h = refl
same-more total modes one other true b false false outs outs' span f g h = cc (f refl)
same-more total modes one other false true false false outs outs' span f g h = cc (g refl)
same-more total modes one other false false false false outs outs' span f g h = cc

shape-more : (a b c d : Bool) (o p q r : Ordered) (x y : Refusal) → (a ≡ true → c ≡ true) → (b ≡ true → d ≡ true)
    → is_ready (if a then Ready o else if b then Ready p else Stuck x) ≡ true → is_ready (if c then Ready q else if d then Ready r else Stuck y) ≡ true
shape-more a b true d o p q r x y f g h = refl
shape-more a b false true o p q r x y f g h = refl
shape-more true b false false o p q r x y f g h = cc (f refl)
shape-more false true false false o p q r x y f g h = cc (g refl)
shape-more false false false false o p q r x y f g h = cc

one-more : (a c : Bool) (o p : Ordered) (x y : Refusal) → (a ≡ true → c ≡ true) → is_ready (if a then Ready o else Stuck x) ≡ true → is_ready (if c then Ready p else Stuck y) ≡ true
one-more a true o p x y f h = refl
one-more true false o p x y f h = cc (f refl)
one-more false false o p x y f h = cc

simple-more : (total : ℕ → ℕ) (modes : ℕ → List ModeDecl) (goal : SimpleGoal) (outs outs' : List ℕ) (span : Span) (bound more : Bound) → Holds bound more
    → is_ready (simple_from total modes goal outs span bound) ≡ true → is_ready (simple_from total modes goal outs' span more) ≡ true
simple-more total modes True outs outs' span bound more h ready = refl
simple-more total modes Fail outs outs' span bound more h ready = refl
simple-more total modes (Same one other) outs outs' span bound more h ready = same-more total modes one other (bound one) (bound other) (more one) (more other) outs outs' span (h one) (h other) ready
simple-more total modes (Shape whole symbol arguments) outs outs' span bound more h ready =
    shape-more (bound whole) (are_bound bound arguments) (more whole) (are_bound more arguments) _ _ _ _ (never_ready span) (never_ready span) (h whole) (all-more arguments bound more h) ready
simple-more total modes (Arithmetic operation result left right) outs outs' span bound more h ready =
    one-more (bound left && bound right) (more left && more right) _ _ (never_ready span) (never_ready span) (and_both (bound left) (bound right) (more left) (more right) (h left) (h right)) ready
simple-more total modes (Compare comparison left right) outs outs' span bound more h ready =
    one-more (bound left && bound right) (more left && more right) _ _ (never_ready span) (never_ready span) (and_both (bound left) (bound right) (more left) (more right) (h left) (h right)) ready
simple-more total modes (Raise text) outs outs' span bound more h ready = one-more (bound text) (more text) _ _ (never_ready span) (never_ready span) (h text) ready
simple-more total modes (Call predicate arguments) outs outs' span bound more h ready =
    called-more total modes bound more predicate arguments (taken_from 0 bound arguments (modes predicate)) (taken_from 0 more arguments (modes predicate)) outs outs' span
    (taken-more 0 bound more arguments (modes predicate) h) ready

-- The conditions on what is bound hold where more is.

bound_or-more : (a b c : Bool) → (a ≡ true → b ≡ true) → (a || c) ≡ true → (b || c) ≡ true
bound_or-more a b c f h = or_both a c (b || c) (λ k. or_left b c (f k)) (λ k. or_right b c k) h

agree_or : (a b c d : Bool) → (a ≡ true → b ≡ true) → (a || c || d) ≡ true → (b || c || d) ≡ true
agree_or true true c d f h = h
agree_or true false c d f h = cc (f refl)
agree_or false true c d f h = refl
agree_or false false c d f h = h

agree-more : (total : ℕ → ℕ) (modes : ℕ → List ModeDecl) (inside : List ℕ) (found : List Arm) (bound more : Bound) → Holds bound more → agree total modes bound inside found ≡ true → agree total modes more inside found ≡ true
agree-more total modes inside found bound more h =
    all-more inside (λ v. bound v || not (differ_on found v) || not (outside total modes inside v)) (λ v. more v || not (differ_on found v) || not (outside total modes inside v))
    (λ v k. agree_or (bound v) (more v) _ _ (h v) k)

inside-more : (total : ℕ → ℕ) (modes : ℕ → List ModeDecl) (inside all : List ℕ) (at_last bound more : Bound) → Holds bound more → binds_inside total modes bound inside all at_last ≡ true → binds_inside total modes more inside all at_last ≡ true
inside-more total modes inside all at_last bound more h =
    all-more all (λ v. bound v || not (at_last v) || not (outside total modes inside v)) (λ v. more v || not (at_last v) || not (outside total modes inside v))
    (λ v k. agree_or (bound v) (more v) _ _ (h v) k)

module _ (total : ℕ → ℕ) (modes : ℕ → List ModeDecl) where
  mutual
    pub from-more : (node : Node) (bound more : Bound) → Holds bound more → is_ready (from total modes node bound) ≡ true → is_ready (from total modes node more) ≡ true
    from-more (Simple goal at) bound more h ready = simple-more total modes goal _ _ at bound more h ready
    from-more (Conjunction goals at) bound more h ready =
        if_all_ready-more (settled (length (moves total modes goals)) (moves total modes goals) bound) (settled (length (moves total modes goals)) (moves total modes goals) more) _ _
        (settled-more (moves total modes goals) bound more (moves-more goals) h) (λ g g' k. refl) ready
    from-more (Parallel goals at) bound more h ready =
        if_all_ready-more (beside 1 (moves total modes goals) bound) (beside 1 (moves total modes goals) more) _ _
        (beside-more 1 (moves total modes goals) bound more (moves-more goals) h) (λ g g' k. refl) ready
    from-more (Disjunction goals at) bound more h ready =
        if_all_ready-more (each_from (moves total modes goals) bound) (each_from (moves total modes goals) more) _ _
        (each_from-more (moves total modes goals) bound more (moves-more goals) h)
        (λ g g' k. if-more (agree total modes bound (all_variables goals) (arms total modes goals)) (agree total modes more (all_variables goals) (arms total modes goals)) _ _ (unbound_output at) (unbound_output at)
        (agree-more total modes (all_variables goals) (arms total modes goals) bound more h) (λ j. refl) k) ready
    from-more (Conditional condition then_part else_part at) bound more h ready =
        if_ready-more (from total modes condition bound) (from total modes condition more) _ _ (from-more condition bound more h)
        (λ g g' k. if-more (binds_inside total modes bound (variables condition ++ variables then_part) (variables condition) (binds total modes condition))
        (binds_inside total modes more (variables condition ++ variables then_part) (variables condition) (binds total modes condition)) _ _ (binds_outer (span_of condition)) (binds_outer (span_of condition))
        (inside-more total modes (variables condition ++ variables then_part) (variables condition) (binds total modes condition) bound more h)
        (λ j. if_ready-more (from total modes then_part (with bound (binds total modes condition))) (from total modes then_part (with more (binds total modes condition))) _ _
        (from-more then_part (with bound (binds total modes condition)) (with more (binds total modes condition)) (holds_with bound more (binds total modes condition) h))
        (λ s s' i. if_ready-more (from total modes else_part bound) (from total modes else_part more) _ _ (from-more else_part bound more h)
        (λ t t' q. if-more (agree total modes bound (variables (Conditional condition then_part else_part at)) (decision_arms total modes condition then_part else_part))
        (agree total modes more (variables (Conditional condition then_part else_part at)) (decision_arms total modes condition then_part else_part)) _ _ (unbound_output at) (unbound_output at)
        (agree-more total modes (variables (Conditional condition then_part else_part at)) (decision_arms total modes condition then_part else_part) bound more h) (λ r. refl) q) i) j) k) ready
    from-more (Negation goal at) bound more h ready =
        if_ready-more (from total modes goal bound) (from total modes goal more) _ _ (from-more goal bound more h)
        (λ g g' k. if-more (binds_inside total modes bound (variables goal) (variables goal) (binds total modes goal)) (binds_inside total modes more (variables goal) (variables goal) (binds total modes goal)) _ _
        (binds_outer at) (binds_outer at) (inside-more total modes (variables goal) (variables goal) (binds total modes goal) bound more h) (λ j. refl) k) ready
    from-more (Quantified own goal at) bound more h ready =
        if_ready-more (from total modes goal bound) (from total modes goal more) _ _ (from-more goal bound more h) (λ g g' k. refl) ready

    pub moves-more : (nodes : Nodes) → AreMonotone (moves total modes nodes)
    moves-more no_nodes = tt
    moves-more (more_nodes first rest) = ((λ bound more h ready. from-more first bound more h ready), moves-more rest)
