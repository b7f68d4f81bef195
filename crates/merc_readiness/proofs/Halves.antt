-- The parts of an if-then-else, of a negation and of a quantified goal are asked.
use Rattle.std.specs.Prelude.{◌≡◌, ◌+◌, ◌-◌, ◌&&◌, ℕ, Bool, true, false, List, [], ◌++◌, length, take, drop}
use Rattle.std.specs.List.{slice_range, slice_index_or}
use Rattle.std.proofs.Common.{◌∙◌, ap, sym, subst, arith}
use Rattle.std.proofs.lemmas.List.{length-append, append-nil, drop_at, take_rest}
use borrow.Rule.Slice.PartMut.{put_mid}
use Rattle.merc_base.specs.declared.place.Span.{Span}
use Rattle.merc_tree.specs.declared.declarations.PredDecl.{PredDecl}
use Rattle.merc_goal_tree.specs.Nodes.{Node, Conditional, Negation, Quantified}
use Rattle.merc_goal_tree.specs.Parts.{parts_of}
use Rattle.merc_goal_tree.specs.Variables.{variables}
use Rattle.merc_order.specs.Bound.{Bound, with, among, are_bound}
use Rattle.merc_order.specs.Order.{binds, binds_inside, from}
use Rattle.merc_order.specs.Ordered.{is_ready}
use Rattle.merc_order.specs.Procedures.{modes_of}
use Rattle.merc_goal_facts.specs.Facts.{AreKnown, subgoals, AreFactsOf}
use Rattle.merc_goal_facts.specs.Bounds.{all_behind}
use Rattle.merc_goal_facts.specs.Ready.{is_arm_ready}
use Rattle.merc_goal_facts.specs.declared.facts.Facts.{Facts}
use Rattle.merc_readiness.specs.Asking.{IsMarked, AreMarked, Asked, AskedParts}
use Rattle.merc_readiness.specs.Chains.{AreArmMarked, AskedArm}
use Rattle.merc_goal_facts.proofs.Ready.{negation_ready, quantified_ready, arms_agree}
use Rattle.merc_readiness.proofs.Inner.{inner_known, negation_inner, negation_marked, quantified_inner, quantified_marked}
use Rattle.merc_readiness.proofs.ChainAsks.{arm_first, arm_second, both_marked, arm_length, flags_length, known_both, bound_by_first, arm_by_condition, arm_by_owed, arm_by_then, decision_known, decision_marked, decision_by_arm, decision_by_else, not_by_agreement}
use Rattle.merc_readiness.proofs.Marking.{put_middle, subgoals_length}

-- the end of a list anew
put_last : {X : Type 0} (front mid new : List X) (start size : ℕ) → length front ≡ start → length mid ≡ size → put_mid start size (front ++ mid) new ≡ front ++ new
put_last front mid new start size f m =
    ap (λ l. put_mid start size (front ++ l) new) (sym (append-nil mid)) ∙ put_middle front mid [] new start size f m ∙ ap (λ l. front ++ l) (append-nil new)

put_behind : {X : Type 0} (front mid new : List X) (start : ℕ) → length front ≡ start → put_mid start (length (front ++ mid) - start) (front ++ mid) new ≡ front ++ new
put_behind front mid new start f = put_last front mid new start (length (front ++ mid) - start) f (let both = length-append front mid in omega arith)

behind_is : {X : Type 0} (front mid : List X) (start : ℕ) → length front ≡ start → slice_range (front ++ mid) start (length (front ++ mid)) ≡ mid
behind_is front mid start f = take_rest (front ++ mid) start ∙ drop_at front mid start f

-- the condition is not ready
pub condition_stops : (predicates : List PredDecl) (condition then_part : Node) (facts : List Facts) (flags new : List Bool) (first : ℕ) (bound : Bound) → first ≡ length (parts_of condition)
    → Asked predicates condition (take first facts) (take first flags) new bound false → (total : ℕ → ℕ) → AreKnown total (modes_of predicates) (subgoals condition ++ subgoals then_part) facts
    → AreArmMarked total (modes_of predicates) condition then_part flags bound
    → (is_arm_ready total (modes_of predicates) condition then_part bound ≡ false) × AreArmMarked total (modes_of predicates) condition then_part (new ++ drop first flags) bound
condition_stops predicates condition then_part facts flags new first bound h asked total known m =
    let k = known_both total (modes_of predicates) (subgoals condition) (subgoals then_part) facts first known (h ∙ sym (subgoals_length condition)) in
    let (is, told) = asked total k.first_known (arm_first total (modes_of predicates) condition then_part flags bound first m h) in (
      arm_by_condition total (modes_of predicates) condition then_part bound is,
      both_marked total (modes_of predicates) condition then_part new (drop first flags) bound told.0 (arm_second total (modes_of predicates) condition then_part flags bound first m h),
    )

-- It is ready, and binds what occurs outside.
pub owed_stops : (predicates : List PredDecl) (condition then_part : Node) (facts : List Facts) (own : Facts) (flags new : List Bool) (first : ℕ) (bound : Bound)
    → first ≡ length (parts_of condition) → Asked predicates condition (take first facts) (take first flags) new bound true → are_bound bound own.owed_by_condition ≡ false
    → (total : ℕ → ℕ) (else_part : Node) (span : Span) → AreKnown total (modes_of predicates) (subgoals condition ++ subgoals then_part) facts
    → AreFactsOf total (modes_of predicates) (Conditional condition then_part else_part span) own → AreArmMarked total (modes_of predicates) condition then_part flags bound
    → (is_arm_ready total (modes_of predicates) condition then_part bound ≡ false) × AreArmMarked total (modes_of predicates) condition then_part (new ++ drop first flags) bound
owed_stops predicates condition then_part facts own flags new first bound h asked owed total else_part span known own_known m =
    let k = known_both total (modes_of predicates) (subgoals condition) (subgoals then_part) facts first known (h ∙ sym (subgoals_length condition)) in
    let (is, told) = asked total k.first_known (arm_first total (modes_of predicates) condition then_part flags bound first m h) in (
      arm_by_owed total (modes_of predicates) condition then_part bound (sym (own_known.owed_by_condition_are bound) ∙ owed),
      both_marked total (modes_of predicates) condition then_part new (drop first flags) bound told.0 (arm_second total (modes_of predicates) condition then_part flags bound first m h),
    )

-- The then part is asked where what the condition binds is bound.
pub then_asked : (predicates : List PredDecl) (condition then_part : Node) (facts : List Facts) (own found : Facts) (flags new later : List Bool) (first : ℕ) (old : List ℕ) (ready : Bool)
    → first ≡ length (parts_of condition) → first - 1 + 1 ≡ length (parts_of condition) → found ≡ slice_index_or facts (first - 1) found
    → Asked predicates condition (take first facts) (take first flags) new (among old) true → are_bound (among old) own.owed_by_condition ≡ true
    → Asked predicates then_part (slice_range facts first (length facts)) (slice_range (new ++ drop first flags) first (length (new ++ drop first flags))) later
    (among (all_behind old found.binds)) ready
    → (total : ℕ → ℕ) (else_part : Node) (span : Span) → AreKnown total (modes_of predicates) (subgoals condition ++ subgoals then_part) facts
    → AreFactsOf total (modes_of predicates) (Conditional condition then_part else_part span) own → AreArmMarked total (modes_of predicates) condition then_part flags (among old)
    → (is_arm_ready total (modes_of predicates) condition then_part (among old) ≡ ready)
    × AreArmMarked total (modes_of predicates) condition then_part (put_mid first (length (new ++ drop first flags) - first) (new ++ drop first flags) later) (among old)
then_asked predicates condition then_part facts own found flags new later first old ready h own_is found_is asked owed then_told total else_part span known own_known m =
    let modes = modes_of predicates in
    let k = known_both total modes (subgoals condition) (subgoals then_part) facts first known (h ∙ sym (subgoals_length condition)) in
    let (is, told) = asked total k.first_known (arm_first total modes condition then_part flags (among old) first m h) in
    let long : length new ≡ first = flags_length total modes condition new (among old) told.0 ∙ sym h in
    let behind : among (all_behind old found.binds) ≡ with (among old) (binds total modes condition) =
    bound_by_first total modes condition (subgoals then_part) facts (first - 1) old found known own_is found_is in
    let then_known = subst (λ l. AreKnown total modes (subgoals then_part) l) (sym (take_rest facts first)) k.rest_known in
    let then_marked = subst (λ b. IsMarked total modes then_part (slice_range (new ++ drop first flags) first (length (new ++ drop first flags))) b) (sym behind)
    (subst (λ l. IsMarked total modes then_part l (with (among old) (binds total modes condition))) (sym (behind_is new (drop first flags) first long))
    (arm_second total modes condition then_part flags (among old) first m h)) in
    let (then_is, then_new) = then_told total then_known then_marked in (
      arm_by_then total modes condition then_part (among old) ready is (sym (own_known.owed_by_condition_are (among old)) ∙ owed)
          (subst (λ b. is_ready (from total modes then_part b) ≡ ready) behind then_is),
      subst (λ l. AreArmMarked total modes condition then_part l (among old)) (sym (put_behind new (drop first flags) later first long))
          (both_marked total modes condition then_part new later (among old) told.0 (subst (λ b. IsMarked total modes then_part later b) behind then_new.0)),
    )

-- an if-then-else by its two arms

pub arm_stops_decision : (predicates : List PredDecl) (condition then_part else_part : Node) (span : Span) (facts : List Facts) (own : Facts) (flags new : List Bool) (first : ℕ) (bound : Bound)
    → first ≡ length (parts_of condition) + length (parts_of then_part) → AskedArm predicates condition then_part (take first facts) own (take first flags) new bound false
    → AskedParts predicates (Conditional condition then_part else_part span) facts own flags (new ++ drop first flags) bound false
arm_stops_decision predicates condition then_part else_part span facts own flags new first bound h asked total known own_known m =
    let modes = modes_of predicates in
    let k = decision_known total modes condition then_part else_part facts first known h in
    let d = decision_marked total modes condition then_part else_part span flags first bound m h in
    let (is, arm) = asked total else_part span k.first_known own_known d.arm_marked in
    decision_by_arm total modes condition then_part else_part span new (drop first flags) bound is arm d.else_marked

-- What the arms owe is not bound.
pub decision_owes : (predicates : List PredDecl) (condition then_part else_part : Node) (span : Span) (facts : List Facts) (own : Facts) (flags : List Bool) (bound : Bound)
    → are_bound bound own.owed ≡ false → AskedParts predicates (Conditional condition then_part else_part span) facts own flags flags bound false
decision_owes predicates condition then_part else_part span facts own flags bound owed total known own_known m =
    (not_by_agreement total (modes_of predicates) condition then_part else_part span bound (sym (own_known.owed_are bound) ∙ owed), m)

pub decision_asked : (predicates : List PredDecl) (condition then_part else_part : Node) (span : Span) (facts : List Facts) (own : Facts) (flags new later : List Bool) (first : ℕ)
    (bound : Bound) (ready : Bool) → first ≡ length (parts_of condition) + length (parts_of then_part)
    → AskedArm predicates condition then_part (take first facts) own (take first flags) new bound true
    → Asked predicates else_part (slice_range facts first (length facts)) (slice_range (new ++ drop first flags) first (length (new ++ drop first flags))) later bound ready
    → are_bound bound own.owed ≡ true
    → AskedParts predicates (Conditional condition then_part else_part span) facts own flags (put_mid first (length (new ++ drop first flags) - first) (new ++ drop first flags) later) bound ready
decision_asked predicates condition then_part else_part span facts own flags new later first bound ready h asked else_told owed total known own_known m =
    let modes = modes_of predicates in
    let k = decision_known total modes condition then_part else_part facts first known h in
    let d = decision_marked total modes condition then_part else_part span flags first bound m h in
    let (is, arm) = asked total else_part span k.first_known own_known d.arm_marked in
    let long : length new ≡ first = arm_length total modes condition then_part new bound arm ∙ sym h in
    let else_known = subst (λ l. AreKnown total modes (subgoals else_part) l) (sym (take_rest facts first)) k.rest_known in
    let else_marked = subst (λ l. IsMarked total modes else_part l bound) (sym (behind_is new (drop first flags) first long)) d.else_marked in
    let (else_is, else_new) = else_told total else_known else_marked in
    let agrees : arms_agree total modes condition then_part else_part span bound ≡ true = sym (own_known.owed_are bound) ∙ owed in
    let both = decision_by_else total modes condition then_part else_part span new later bound ready is else_is agrees arm else_new.0 in
    (both.0, subst (λ l. AreMarked total modes (Conditional condition then_part else_part span) l bound) (sym (put_behind new (drop first flags) later first long)) both.1)

-- a negation, and a quantified goal

pub negation_stops : (predicates : List PredDecl) (goal : Node) (span : Span) (facts : List Facts) (own : Facts) (flags new : List Bool) (bound : Bound) (ready : Bool) → ready ≡ false
    → Asked predicates goal facts flags new bound ready → AskedParts predicates (Negation goal span) facts own flags new bound ready
negation_stops predicates goal span facts own flags new bound ready h asked total known own_known m =
    let modes = modes_of predicates in
    let (is, told) = asked total (inner_known total modes goal facts known) (negation_inner total modes goal span flags bound m) in (
      negation_ready total modes goal span bound ∙ ap (λ b. b && binds_inside total modes bound (variables goal) (variables goal) (binds total modes goal)) (is ∙ h) ∙ sym h,
      negation_marked total modes goal span new bound told.0,
    )

pub negation_asked : (predicates : List PredDecl) (goal : Node) (span : Span) (facts : List Facts) (own : Facts) (flags new : List Bool) (bound : Bound) (ready : Bool)
    → are_bound bound own.owed ≡ ready → Asked predicates goal facts flags new bound true → AskedParts predicates (Negation goal span) facts own flags new bound ready
negation_asked predicates goal span facts own flags new bound ready owed asked total known own_known m =
    let modes = modes_of predicates in
    let (is, told) = asked total (inner_known total modes goal facts known) (negation_inner total modes goal span flags bound m) in (
      negation_ready total modes goal span bound ∙ ap (λ b. b && binds_inside total modes bound (variables goal) (variables goal) (binds total modes goal)) is
          ∙ sym (own_known.owed_are bound) ∙ owed,
      negation_marked total modes goal span new bound told.0,
    )

pub quantified_asked : (predicates : List PredDecl) (own_variables : List ℕ) (goal : Node) (span : Span) (facts : List Facts) (own : Facts) (flags new : List Bool) (bound : Bound) (ready : Bool)
    → Asked predicates goal facts flags new bound ready → AskedParts predicates (Quantified own_variables goal span) facts own flags new bound ready
quantified_asked predicates own_variables goal span facts own flags new bound ready asked total known own_known m =
    let modes = modes_of predicates in
    let (is, told) = asked total (inner_known total modes goal facts known) (quantified_inner total modes own_variables goal span flags bound m) in
    (quantified_ready total modes own_variables goal span bound ∙ is, quantified_marked total modes own_variables goal span new bound told.0)
