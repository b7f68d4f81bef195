-- When goals are ready, by the goals that they join.
use Rattle.std.specs.Prelude.{◌≡◌, ◌&&◌, ◌||◌, ℕ, Bool, true, false, List, ◌++◌, Option, Some, None, is_some, refl, if◌then◌else◌}
use Rattle.std.proofs.Common.{◌∙◌, ap, sym}
use Rattle.merc_base.specs.declared.place.Span.{Span}
use Rattle.merc_base.specs.declared.refusal.Refusal.{Refusal}
use Rattle.merc_tree.specs.declared.declarations.ModeDecl.{ModeDecl}
use Rattle.merc_goal_tree.specs.declared.goal.SimpleGoal.{SimpleGoal}
use Rattle.merc_goal_tree.specs.declared.goal.SimpleGoal.TheVariants.{True, Fail, Same, Shape, Arithmetic, Compare, Raise, Call}
use Rattle.merc_goal_tree.specs.Nodes.{Node, Conditional, Negation, Quantified, span_of}
use Rattle.merc_goal_tree.specs.Variables.{variables}
use Rattle.merc_order.specs.Bound.{Bound, are_bound, with}
use Rattle.merc_order.specs.CallModes.{taken_from}
use Rattle.merc_order.specs.Faults.{binds_outer, never_ready, unbound_output}
use Rattle.merc_order.specs.Order.{agree, binds, binds_inside, called_from, decision_arms, from, same_from, simple_from}
use Rattle.merc_order.specs.Ordered.{Ordered, Outcome, Ready, Stuck, is_ready, if_ready}
use Rattle.merc_goal_facts.specs.Ready.{can_go, is_arm_ready}

pub ready_then : (outcome : Outcome) (made : Ordered → Outcome) (b : Bool) → ((goal : Ordered) → is_ready (made goal) ≡ b) → is_ready (if_ready outcome made) ≡ (is_ready outcome && b)
ready_then (Ready goal) made b h = h goal
ready_then (Stuck fault) made b h = refl

pub ready_if : (a : Bool) (goal : Ordered) (fault : Refusal) → is_ready (if a then Ready goal else Stuck fault) ≡ a
ready_if true goal fault = refl
ready_if false goal fault = refl

pub and_true : (a : Bool) → (a && true) ≡ a
and_true true = refl
and_true false = refl

and_assoc : (a b c : Bool) → ((a && b) && c) ≡ (a && (b && c))
and_assoc true b c = refl
and_assoc false b c = refl

ready_in : (a b : Bool) (outcome : Outcome) (fault : Refusal) → is_ready outcome ≡ b → is_ready (if a then outcome else Stuck fault) ≡ (a && b)
ready_in true b outcome fault h = h
ready_in false b outcome fault h = refl

module _ (total : ℕ → ℕ) (modes : ℕ → List ModeDecl) where
  -- The goals that hold no others and can go are those that are ready.

  same_ready : (one other : ℕ) (a b : Bool) (outputs : List ℕ) (span : Span) → is_ready (same_from total modes one other a b outputs span) ≡ (a || b)
  same_ready one other true true outputs span = refl
  same_ready one other true false outputs span = refl
  same_ready one other false true outputs span = refl
  same_ready one other false false outputs span = refl

  shape_ready : (a b : Bool) (one other : Ordered) (fault : Refusal) → is_ready (if a then Ready one else if b then Ready other else Stuck fault) ≡ (a || b)
  shape_ready true b one other fault = refl
  shape_ready false b one other fault = ready_if b other fault

  called_ready : (bound : Bound) (predicate : ℕ) (arguments : List ℕ) (taken : Option (ℕ × ModeDecl)) (outputs : List ℕ) (span : Span)
      → is_ready (called_from total modes bound predicate arguments taken outputs span) ≡ is_some taken
  called_ready bound predicate arguments None outputs span = refl
  called_ready bound predicate arguments (Some mode) outputs span = refl

  pub simple_ready : (goal : SimpleGoal) (outputs : List ℕ) (span : Span) (bound : Bound) → is_ready (simple_from total modes goal outputs span bound) ≡ can_go modes goal bound
  simple_ready True outputs span bound = refl
  simple_ready Fail outputs span bound = refl
  simple_ready (Same one other) outputs span bound = same_ready one other (bound one) (bound other) outputs span
  simple_ready (Shape whole symbol arguments) outputs span bound = shape_ready (bound whole) (are_bound bound arguments) _ _ (never_ready span)
  simple_ready (Arithmetic operation result left right) outputs span bound = ready_if (bound left && bound right) _ (never_ready span)
  simple_ready (Compare comparison left right) outputs span bound = ready_if (bound left && bound right) _ (never_ready span)
  simple_ready (Raise text) outputs span bound = ready_if (bound text) _ (never_ready span)
  simple_ready (Call predicate arguments) outputs span bound = called_ready bound predicate arguments (taken_from 0 bound arguments (modes predicate)) outputs span

  -- goals that join others

  pub negation_ready : (goal : Node) (span : Span) (bound : Bound) → is_ready (from total modes (Negation goal span) bound)
      ≡ (is_ready (from total modes goal bound) && binds_inside total modes bound (variables goal) (variables goal) (binds total modes goal))
  negation_ready goal span bound =
      ready_then (from total modes goal bound) _ (binds_inside total modes bound (variables goal) (variables goal) (binds total modes goal))
      (λ inner. ready_if (binds_inside total modes bound (variables goal) (variables goal) (binds total modes goal)) _ (binds_outer span))

  pub quantified_ready : (own : List ℕ) (goal : Node) (span : Span) (bound : Bound) → is_ready (from total modes (Quantified own goal span) bound) ≡ is_ready (from total modes goal bound)
  quantified_ready own goal span bound = ready_then (from total modes goal bound) _ true (λ inner. refl) ∙ and_true (is_ready (from total modes goal bound))

  -- The facts of its arms tell that an if-then-else binds the same in both.
  abbrev pub arms_agree : Node → Node → Node → Span → Bound → Bool
  arms_agree condition then_part else_part span bound =
      agree total modes bound (variables (Conditional condition then_part else_part span)) (decision_arms total modes condition then_part else_part)

  pub conditional_ready : (condition then_part else_part : Node) (span : Span) (bound : Bound)
      → is_ready (from total modes (Conditional condition then_part else_part span) bound)
      ≡ (is_arm_ready total modes condition then_part bound && (is_ready (from total modes else_part bound) && arms_agree condition then_part else_part span bound))
  conditional_ready condition then_part else_part span bound =
      let a = arms_agree condition then_part else_part span bound in
      let e = is_ready (from total modes else_part bound) in
      let t = is_ready (from total modes then_part (with bound (binds total modes condition))) in
      let k = binds_inside total modes bound (variables condition ++ variables then_part) (variables condition) (binds total modes condition) in
      let c = is_ready (from total modes condition bound) in
      ready_then (from total modes condition bound) _ (k && (t && (e && a)))
      (λ first. ready_in k (t && (e && a)) _ (binds_outer (span_of condition))
      (ready_then (from total modes then_part (with bound (binds total modes condition))) _ (e && a)
      (λ second. ready_then (from total modes else_part bound) _ a
      (λ third. ready_in a true _ (unbound_output span) refl ∙ and_true a))))
      ∙ sym (and_assoc c (k && t) (e && a) ∙ ap (λ b. c && b) (and_assoc k t (e && a)))
