-- Symbols that are told to be the same are equal.
use Rattle.std.specs.Prelude.{◌≡◌, ℕ, Bool, true, false, ◌==◌, ◌&&◌, refl}
use Rattle.std.proofs.Common.{◌∙◌, ap, arith}
use Rattle.std.proofs.lemmas.Bool.Decides.{nat_tests, Decides-eqb, Decides-int_eq}
use Rattle.merc_goal_tree.specs.declared.goal.Symbol.{Symbol}
use Rattle.merc_goal_tree.specs.declared.goal.Symbol.TheVariants.{Constructor, Integer, Text}
use Rattle.merc_grading.specs.Known.{same_symbol}

and_both : (a b : Bool) → (a && b) ≡ true → (a ≡ true) × (b ≡ true)
and_both true b h = (refl, h)
and_both false b h = cc

pub symbols_equal : (one other : Symbol) → same_symbol one other ≡ true → one ≡ other
symbols_equal (Constructor name arity) (Constructor other count) h =
    let both = and_both (name == other) (arity == count) h in
    ap (λ n. Constructor n arity) ((Decides-eqb name other).0 both.0) ∙ ap (λ n. Constructor other n) ((Decides-eqb arity count).0 both.1)
symbols_equal (Constructor name arity) (Integer other) h = cc
symbols_equal (Constructor name arity) (Text other) h = cc
symbols_equal (Integer value) (Constructor other count) h = cc
symbols_equal (Integer value) (Integer other) h = ap (λ v. Integer v) ((Decides-int_eq value other).0 h)
symbols_equal (Integer value) (Text other) h = cc
symbols_equal (Text text) (Constructor other count) h = cc
symbols_equal (Text text) (Integer other) h = cc
symbols_equal (Text text) (Text other) h = ap (λ t. Text t) ((Decides-eqb text other).0 h)

eq_self : (n : ℕ) → (n == n) ≡ true
eq_self n = grind (arith, nat_tests)

pub symbol_self : (one : Symbol) → same_symbol one one ≡ true
symbol_self (Constructor name arity) = ap (λ b. b && (arity == arity)) (eq_self name) ∙ eq_self arity
symbol_self (Integer value) = (Decides-int_eq value value).1 refl
symbol_self (Text text) = eq_self text
