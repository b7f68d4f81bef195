-- Each operation and comparison, for each sign.
use Rattle.std.specs.Prelude.{◌≡◌, ℤ, pos, negsuc, true, false, Some, None, refl}
use Rattle.merc_value.specs.Value.{Int, Text}
use Rattle.merc_goal_tree.specs.declared.goal.Operation.TheVariants.{Add, Subtract, Multiply, Quotient, Div, Mod, Rem}
use Rattle.merc_goal_tree.specs.declared.goal.Comparison.TheVariants.{Less, Greater, AtMost, AtLeast}
use Rattle.merc_meaning.specs.Arithmetic.{arithmetic, Gives, ZeroDivisor, comparison, arithmetic_of, comparison_of}

-- the least and the greatest integer
abbrev least : ℤ
least = negsuc 9223372036854775807

abbrev greatest : ℤ
greatest = pos 9223372036854775807

abbrev minus : ℤ → ℤ
minus number = Rattle.std.specs.Prelude.neg_ℤ number

add-example : arithmetic Add (pos 7) (minus (pos 9)) ≡ Gives (minus (pos 2))
add-example = refl

add-wraps : arithmetic Add greatest (pos 1) ≡ Gives least
add-wraps = refl

add-not : arithmetic Add greatest (pos 1) ≡ Gives greatest → ⊥
add-not saturates = cc

subtract-example : arithmetic Subtract (pos 7) (pos 9) ≡ Gives (minus (pos 2))
subtract-example = refl

subtract-wraps : arithmetic Subtract least (pos 1) ≡ Gives greatest
subtract-wraps = refl

multiply-example : arithmetic Multiply (minus (pos 7)) (pos 9) ≡ Gives (minus (pos 63))
multiply-example = refl

multiply-negative : arithmetic Multiply (minus (pos 7)) (minus (pos 9)) ≡ Gives (pos 63)
multiply-negative = refl

multiply-wraps : arithmetic Multiply greatest (pos 2) ≡ Gives (minus (pos 2))
multiply-wraps = refl

-- `//` and `rem`

quotient-pos_pos : arithmetic Quotient (pos 7) (pos 2) ≡ Gives (pos 3)
quotient-pos_pos = refl

quotient-neg_pos : arithmetic Quotient (minus (pos 7)) (pos 2) ≡ Gives (minus (pos 3))
quotient-neg_pos = refl

quotient-pos_neg : arithmetic Quotient (pos 7) (minus (pos 2)) ≡ Gives (minus (pos 3))
quotient-pos_neg = refl

quotient-neg_neg : arithmetic Quotient (minus (pos 7)) (minus (pos 2)) ≡ Gives (pos 3)
quotient-neg_neg = refl

quotient-wraps : arithmetic Quotient least (minus (pos 1)) ≡ Gives least
quotient-wraps = refl

quotient-zero : arithmetic Quotient (pos 7) (pos 0) ≡ ZeroDivisor
quotient-zero = refl

quotient-not : arithmetic Quotient (minus (pos 7)) (pos 2) ≡ Gives (minus (pos 4)) → ⊥
quotient-not rounds_down = cc

rem-pos_pos : arithmetic Rem (pos 7) (pos 2) ≡ Gives (pos 1)
rem-pos_pos = refl

rem-neg_pos : arithmetic Rem (minus (pos 7)) (pos 2) ≡ Gives (minus (pos 1))
rem-neg_pos = refl

rem-pos_neg : arithmetic Rem (pos 7) (minus (pos 2)) ≡ Gives (pos 1)
rem-pos_neg = refl

rem-neg_neg : arithmetic Rem (minus (pos 7)) (minus (pos 2)) ≡ Gives (minus (pos 1))
rem-neg_neg = refl

rem-least : arithmetic Rem least (minus (pos 1)) ≡ Gives (pos 0)
rem-least = refl

rem-zero : arithmetic Rem (pos 7) (pos 0) ≡ ZeroDivisor
rem-zero = refl

-- `div` and `mod`

div-pos_pos : arithmetic Div (pos 7) (pos 2) ≡ Gives (pos 3)
div-pos_pos = refl

div-neg_pos : arithmetic Div (minus (pos 7)) (pos 2) ≡ Gives (minus (pos 4))
div-neg_pos = refl

div-pos_neg : arithmetic Div (pos 7) (minus (pos 2)) ≡ Gives (minus (pos 4))
div-pos_neg = refl

div-neg_neg : arithmetic Div (minus (pos 7)) (minus (pos 2)) ≡ Gives (pos 3)
div-neg_neg = refl

div-exact : arithmetic Div (minus (pos 8)) (pos 2) ≡ Gives (minus (pos 4))
div-exact = refl

div-wraps : arithmetic Div least (minus (pos 1)) ≡ Gives least
div-wraps = refl

div-zero : arithmetic Div (minus (pos 7)) (pos 0) ≡ ZeroDivisor
div-zero = refl

div-not : arithmetic Div (minus (pos 7)) (pos 2) ≡ Gives (minus (pos 3)) → ⊥
div-not truncates = cc

mod-pos_pos : arithmetic Mod (pos 7) (pos 2) ≡ Gives (pos 1)
mod-pos_pos = refl

mod-neg_pos : arithmetic Mod (minus (pos 7)) (pos 2) ≡ Gives (pos 1)
mod-neg_pos = refl

mod-pos_neg : arithmetic Mod (pos 7) (minus (pos 2)) ≡ Gives (minus (pos 1))
mod-pos_neg = refl

mod-neg_neg : arithmetic Mod (minus (pos 7)) (minus (pos 2)) ≡ Gives (minus (pos 1))
mod-neg_neg = refl

mod-least : arithmetic Mod least (minus (pos 1)) ≡ Gives (pos 0)
mod-least = refl

mod-zero : arithmetic Mod (pos 7) (pos 0) ≡ ZeroDivisor
mod-zero = refl

mod-not : arithmetic Mod (minus (pos 7)) (pos 2) ≡ Gives (minus (pos 1)) → ⊥
mod-not truncates = cc

-- comparisons

less-example : comparison Less (minus (pos 2)) (pos 1) ≡ true
less-example = refl

less-negative : comparison Less (minus (pos 2)) (minus (pos 1)) ≡ true
less-negative = refl

less-equal : comparison Less (pos 1) (pos 1) ≡ false
less-equal = refl

greater-example : comparison Greater (pos 1) (minus (pos 2)) ≡ true
greater-example = refl

greater-equal : comparison Greater (pos 1) (pos 1) ≡ false
greater-equal = refl

at_most-example : comparison AtMost (minus (pos 2)) (minus (pos 2)) ≡ true
at_most-example = refl

at_most-not : comparison AtMost (pos 1) (minus (pos 2)) ≡ true → ⊥
at_most-not backwards = cc

at_least-example : comparison AtLeast (pos 1) (pos 1) ≡ true
at_least-example = refl

at_least-not : comparison AtLeast (minus (pos 2)) (pos 1) ≡ true → ⊥
at_least-not backwards = cc

-- as relations

arithmetic_of-example : arithmetic_of Add (Int (pos 1)) (Int (pos 2)) ≡ Some (Int (pos 3))
arithmetic_of-example = refl

arithmetic_of-order : arithmetic_of Subtract (Int (pos 7)) (Int (pos 9)) ≡ Some (Int (minus (pos 2)))
arithmetic_of-order = refl

arithmetic_of-zero : arithmetic_of Mod (Int (pos 1)) (Int (pos 0)) ≡ None
arithmetic_of-zero = refl

arithmetic_of-text : arithmetic_of Add (Int (pos 1)) (Text 7) ≡ None
arithmetic_of-text = refl

comparison_of-example : comparison_of Less (Int (pos 1)) (Int (pos 2)) ≡ true
comparison_of-example = refl

comparison_of-text : comparison_of Less (Text 1) (Text 2) ≡ false
comparison_of-text = refl
