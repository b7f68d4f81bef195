-- What arithmetic gives fits 64 bits.
use Rattle.std.proofs.Common.{◌≡◌, ℤ, pos, FitsSigned, Bool, true, false, if◌then◌else◌, subst}
use Rattle.std.specs.Int.{w64, int_wrap}
use Rattle.std.specs.Ordering.{int_eq}
use Rattle.std.proofs.lemmas.Int.{SFits-int_wrap}
use Rattle.merc_goal_tree.specs.declared.goal.Operation.{Operation}
use Rattle.merc_goal_tree.specs.declared.goal.Operation.TheVariants.{Add, Subtract, Multiply, Quotient, Div, Mod, Rem}
use Rattle.merc_meaning.specs.Arithmetic.{Gives, ZeroDivisor, wrapped, arithmetic}

wrapped-fits : (number : ℤ) → FitsSigned w64 (wrapped number)
unfolding int_wrap
wrapped-fits number = SFits-int_wrap w64 number

same-number : {one other : ℤ} → Gives one ≡ Gives other → one ≡ other
same-number h = cc

given-fits : (exact number : ℤ) → Gives (wrapped exact) ≡ Gives number → FitsSigned w64 number
given-fits exact number h = subst (λ (z : ℤ). FitsSigned w64 z) (same-number h) (wrapped-fits exact)

divided-fits : (is_zero : Bool) (exact number : ℤ) → (if is_zero then ZeroDivisor else Gives (wrapped exact)) ≡ Gives number → FitsSigned w64 number
divided-fits true exact number h = absurd cc
divided-fits false exact number h = given-fits exact number h

pub arithmetic-fits : (operation : Operation) (left right number : ℤ) → arithmetic operation left right ≡ Gives number → FitsSigned w64 number
arithmetic-fits Add left right number h = given-fits _ number h
arithmetic-fits Subtract left right number h = given-fits _ number h
arithmetic-fits Multiply left right number h = given-fits _ number h
arithmetic-fits Quotient left right number h = divided-fits (int_eq right (pos 0)) _ number h
arithmetic-fits Rem left right number h = divided-fits (int_eq right (pos 0)) _ number h
arithmetic-fits Div left right number h = divided-fits (int_eq right (pos 0)) _ number h
arithmetic-fits Mod left right number h = divided-fits (int_eq right (pos 0)) _ number h
