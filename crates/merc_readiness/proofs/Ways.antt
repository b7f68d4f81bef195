-- What is bound where goals of a conjunction went, in whatever order they did.
use Rattle.std.specs.Prelude.{◌≡◌, ◌≤◌, ◌<◌, ◌+◌, ◌||◌, ℕ, Bool, true, false, nat_lt, List, [], ◌∷◌, refl}
use Rattle.std.proofs.Common.{◌∙◌, ap, sym, arith}
use Rattle.std.proofs.lemmas.Bool.Decides.{nat_tests}
use mathlib.Core.Path.{fun_ext}
use Rattle.merc_tree.specs.declared.declarations.ModeDecl.{ModeDecl}
use Rattle.merc_goal_tree.specs.Nodes.{Nodes, no_nodes, more_nodes}
use Rattle.merc_order.specs.Bound.{Bound, with}
use Rattle.merc_order.specs.Marks.{Marked, no_marks, more_marks, left}
use Rattle.merc_order.specs.Moves.{Move}
use Rattle.merc_order.specs.Order.{binds, moves}
use Rattle.merc_order.specs.Ways.{Removed, here, later, Went, start, went}
use Rattle.merc_readiness.specs.Sweeps.{marked_bind}
use Rattle.merc_goal_facts.proofs.Bounds.{or_false}

abbrev one_of : Bool → ℕ
one_of true = 1
one_of false = 0

-- how many of these bind a variable
abbrev weight : ℕ → List Move → ℕ
weight variable [] = 0
weight variable (move ∷ moves) = one_of (move.binds variable) + weight variable moves

weight-removed : (variable : ℕ) (move : Move) (all others : List Move) → Removed move all others → weight variable all ≡ one_of (move.binds variable) + weight variable others
weight-removed variable move all others (here m o) = refl
weight-removed variable move all others (later f m a o r) = omega (arith, weight-removed variable m a o r)

weight-went : (variable : ℕ) (all rest : List Move) (bound now : Bound) → Went all bound rest now → weight variable rest ≤ weight variable all
weight-went variable all rest bound now (start a k) = omega arith
weight-went variable all rest bound now (went a l r k n m w t ready) = omega (arith, weight-went variable a l k n w, weight-removed variable m l r t)

not_less : (n : ℕ) → nat_lt n n ≡ false
not_less n = grind (arith, nat_tests)

is_less : (n m : ℕ) → n < m → nat_lt n m ≡ true
is_less n m h = grind (arith, nat_tests)

or_true : (a : Bool) → (a || true) ≡ true
or_true true = refl
or_true false = refl

grown : (bit b : Bool) (l r a : ℕ) → l ≡ one_of bit + r → l ≤ a → ((b || nat_lt l a) || bit) ≡ (b || nat_lt r a)
grown true b l r a e h = or_true (b || nat_lt l a) ∙ sym (ap (λ x. b || x) (is_less r a (omega arith)) ∙ or_true b)
grown false b l r a e h = let same : l ≡ r = omega (arith, e) in or_false (b || nat_lt l a) ∙ ap (λ n. b || nat_lt n a) same

bound_now : (variable : ℕ) (all rest : List Move) (bound now : Bound) → Went all bound rest now → now variable ≡ (bound variable || nat_lt (weight variable rest) (weight variable all))
bound_now variable all rest bound now (start a k) = sym (ap (λ x. k variable || x) (not_less (weight variable a)) ∙ or_false (k variable))
bound_now variable all rest bound now (went a l r k n m w t ready) =
    ap (λ x. x || m.binds variable) (bound_now variable a l k n w)
    ∙ grown (m.binds variable) (k variable) (weight variable l) (weight variable r) (weight variable a) (weight-removed variable m l r t) (weight-went variable a l k n w)

module _ (total : ℕ → ℕ) (modes : ℕ → List ModeDecl) where
  weight-left : (variable : ℕ) (goals : Nodes) (marked : Marked) → weight variable (left total modes goals marked) ≤ weight variable (moves total modes goals)
  weight-left variable no_nodes marked = omega arith
  weight-left variable (more_nodes first rest) no_marks = omega arith
  weight-left variable (more_nodes first rest) (more_marks true inner others) = omega (arith, weight-left variable rest others)
  weight-left variable (more_nodes first rest) (more_marks false inner others) = omega (arith, weight-left variable rest others)

  gone_step : (bit x : Bool) (l a : ℕ) → l ≤ a → x ≡ nat_lt l a → (bit || x) ≡ nat_lt l (one_of bit + a)
  gone_step true x l a h e = sym (is_less l (1 + a) (omega arith))
  gone_step false x l a h e = let same : a ≡ 0 + a = omega arith in e ∙ ap (λ n. nat_lt l n) same

  kept_step : (k l a : ℕ) → nat_lt l a ≡ nat_lt (k + l) (k + a)
  kept_step k l a = grind (arith, nat_tests)

  marked_is : (variable : ℕ) (goals : Nodes) (marked : Marked) → marked_bind total modes goals marked variable ≡ nat_lt (weight variable (left total modes goals marked)) (weight variable (moves total modes goals))
  marked_is variable no_nodes marked = refl
  marked_is variable (more_nodes first rest) no_marks = sym (not_less (weight variable (moves total modes (more_nodes first rest))))
  marked_is variable (more_nodes first rest) (more_marks true inner others) =
      gone_step (binds total modes first variable) (marked_bind total modes rest others variable) (weight variable (left total modes rest others)) (weight variable (moves total modes rest))
      (weight-left variable rest others) (marked_is variable rest others)
  marked_is variable (more_nodes first rest) (more_marks false inner others) =
      marked_is variable rest others
      ∙ kept_step (one_of (binds total modes first variable)) (weight variable (left total modes rest others)) (weight variable (moves total modes rest))

  -- What is bound where the marked ones of these went is what was bound and what they bind.
  pub now_is : (goals : Nodes) (marked : Marked) (bound now : Bound) → Went (moves total modes goals) bound (left total modes goals marked) now → now ≡ with bound (marked_bind total modes goals marked)
  now_is goals marked bound now way =
      fun_ext (λ variable. bound_now variable (moves total modes goals) (left total modes goals marked) bound now way ∙ ap (λ x. bound variable || x) (sym (marked_is variable goals marked)))
