-- What `wrapping_` methods give, in the words of the definitions.
use Rattle.std.proofs.Common.{◌≡◌, ℕ, ℤ, pos, negsuc, neg_ℤ, ◌+ℤ◌, ◌-ℤ◌, ◌*ℤ◌, ◌≤◌, ◌^◌, ◌/◌, suc, zero, FitsSigned, Bool, true, false, if◌then◌else◌, refl, sym, ap, ◌∙◌, arith, to_z-of_z, int_div, int_rem, unsigned_abs}
use Rattle.std.specs.Int.{w64, int_wrap, int_wrapping_add, int_wrapping_sub, int_wrapping_mul, int_wrapping_div, cast_signed, cast_unsigned}
use Rattle.std.proofs.lemmas.Int.{ints, int_wrap_fits, int_wrap-add_left, wrapping_add_is, wrapping_sub_is, wrapping_mul_is, quot-rem, SFits-int_wrap}
use Rattle.merc_meaning.specs.Arithmetic.{wrapped, is_rounded_up, rounded_down}
use borrow.Author.Differences.{same_in, same_out, sum_is_lem, neg_is}
use lib.IntN.{pred_ℤ, pred_ℤ-*ℤ}
use lib.Signed.{mag_rem}
use native.Mathlib.Nat.{div-le_self, lt_of_le_of_lt}

wrapped-is : (number : ℤ) → int_wrap w64 number ≡ wrapped number
unfolding int_wrap
wrapped-is number = refl

pub add_is : (left right : ℤ) → FitsSigned w64 left → FitsSigned w64 right → int_wrapping_add w64 left right ≡ wrapped (left +ℤ right)
add_is left right f g = wrapping_add_is w64 left right f g ∙ wrapped-is (left +ℤ right)

pub subtract_is : (left right : ℤ) → FitsSigned w64 left → FitsSigned w64 right → int_wrapping_sub w64 left right ≡ wrapped (left -ℤ right)
subtract_is left right f g = wrapping_sub_is w64 left right f g ∙ wrapped-is (left -ℤ right)

pub multiply_is : (left right : ℤ) → FitsSigned w64 left → FitsSigned w64 right → int_wrapping_mul w64 left right ≡ wrapped (left *ℤ right)
multiply_is left right f g = wrapping_mul_is w64 left right f g ∙ wrapped-is (left *ℤ right)

-- the bits of a number that is not too great are what wraps
bits-are : (number : ℤ) → unsigned_abs number ≤ 2 ^ 63 → cast_signed w64 (cast_unsigned w64 number) ≡ wrapped number
bits-are (pos n) small = ap (cast_signed w64) (omega arith)
bits-are (negsuc n) small = ap (cast_signed w64) (omega arith)

abs-neg : (n : ℕ) → unsigned_abs (neg_ℤ (pos n)) ≡ n
abs-neg zero = refl
abs-neg (suc n) = refl

quotient-small : (left right : ℤ) → unsigned_abs (int_div left right) ≤ unsigned_abs left
quotient-small (pos a) (pos b) = div-le_self a b
quotient-small (pos a) (negsuc b) = rw (abs-neg (a / suc b)) (div-le_self a (suc b))
quotient-small (negsuc a) (pos b) = rw (abs-neg (suc a / b)) (div-le_self (suc a) b)
quotient-small (negsuc a) (negsuc b) = div-le_self (suc a) (suc b)

fits-small : (number : ℤ) → FitsSigned w64 number → unsigned_abs number ≤ 2 ^ 63
fits-small (pos n) f = let h = f.sfits in omega arith
fits-small (negsuc n) f = let h = f.sfits in omega arith

pub quotient_is : (left right : ℤ) → FitsSigned w64 left → int_wrapping_div w64 left right ≡ wrapped (int_div left right)
quotient_is left right f =
    let one = quotient-small left right in
    let other = fits-small left f in
    bits-are (int_div left right) (omega arith)

rem-fits : (left right : ℤ) → FitsSigned w64 left → FitsSigned w64 (int_rem left right)
rem-fits left right f = record { sfits = lt_of_le_of_lt (mag_rem left right) f.sfits }

pub rem_is : (left right : ℤ) → FitsSigned w64 left → int_rem left right ≡ wrapped (int_rem left right)
rem_is left right f = sym (int_wrap_fits w64 (int_rem left right) (rem-fits left right f)) ∙ wrapped-is (int_rem left right)

-- One less, and one divisor more, where the number wraps before or not.

wrapped-fits : (number : ℤ) → FitsSigned w64 (wrapped number)
unfolding int_wrap
wrapped-fits number = SFits-int_wrap w64 number

left-is : (number other : ℤ) → wrapped (wrapped number +ℤ other) ≡ wrapped (number +ℤ other)
unfolding int_wrap
left-is number other = int_wrap-add_left w64 number other

one-less : (quotient : ℤ) → int_wrapping_sub w64 (wrapped quotient) (pos 1) ≡ wrapped (quotient -ℤ pos 1)
one-less quotient = subtract_is (wrapped quotient) (pos 1) (wrapped-fits quotient) record { sfits = omega arith } ∙ left-is quotient (negsuc 0)

exactly : (left quotient right rest : ℤ) → quotient *ℤ right +ℤ rest ≡ left → left -ℤ (quotient *ℤ right) ≡ rest
exactly left quotient right rest h = omega (arith, same_in, same_out, sum_is_lem, neg_is, h)

one-lower : (quotient : ℤ) → quotient -ℤ pos 1 ≡ pred_ℤ quotient
one-lower (pos zero) = refl
one-lower (pos (suc n)) = omega (arith, ints)
one-lower (negsuc n) = omega (arith, ints)

one-more : (left quotient right rest : ℤ) → quotient *ℤ right +ℤ rest ≡ left → left -ℤ ((quotient -ℤ pos 1) *ℤ right) ≡ rest +ℤ right
one-more left quotient right rest h =
    let lower : (quotient -ℤ pos 1) *ℤ right ≡ quotient *ℤ right -ℤ right = ap (λ (q : ℤ). q *ℤ right) (one-lower quotient) ∙ pred_ℤ-*ℤ quotient right in
    omega (arith, same_in, same_out, sum_is_lem, neg_is, h, lower)

rounded-up : (left right : ℤ) → is_rounded_up left right ≡ true → rounded_down left right ≡ int_div left right -ℤ pos 1
rounded-up left right h = ap (λ (b : Bool). if b then int_div left right -ℤ pos 1 else int_div left right) h

not-rounded-up : (left right : ℤ) → is_rounded_up left right ≡ false → rounded_down left right ≡ int_div left right
not-rounded-up left right h = ap (λ (b : Bool). if b then int_div left right -ℤ pos 1 else int_div left right) h

-- What the code gives in each case: from the quotient or the remainder of the two numbers as they are passed, and the answer to the test.

abbrev passed : ℤ → ℤ
passed number = cast_signed w64 (cast_unsigned w64 number)

settled : {A : Type 0} (of : ℤ → ℤ → A) (left right : ℤ) (result : A) → FitsSigned w64 left → FitsSigned w64 right → result ≡ of (passed left) (passed right) → result ≡ of left right
settled of left right result f g h = h ∙ ap (λ (z : ℤ). of z (passed right)) (to_z-of_z f) ∙ ap (of left) (to_z-of_z g)

back : (number : ℤ) → passed (wrapped number) ≡ wrapped number
back number = to_z-of_z (wrapped-fits number)

module _ (left right : ℤ) (is_up : Bool) (f : FitsSigned w64 left) (g : FitsSigned w64 right) (test : is_up ≡ is_rounded_up (passed left) (passed right)) where
  lowered : is_up ≡ true → rounded_down left right ≡ int_div left right -ℤ pos 1
  lowered h = rounded-up left right (sym (settled is_rounded_up left right is_up f g test) ∙ h)

  kept : is_up ≡ false → rounded_down left right ≡ int_div left right
  kept h = not-rounded-up left right (sym (settled is_rounded_up left right is_up f g test) ∙ h)

  module _ (quotient : ℤ) (is : quotient ≡ int_wrapping_div w64 (passed left) (passed right)) where
    exact : quotient ≡ wrapped (int_div left right)
    exact = settled (int_wrapping_div w64) left right quotient f g is ∙ quotient_is left right f

    pub div_rounded : is_up ≡ true → int_wrapping_sub w64 quotient (pos 1) ≡ wrapped (rounded_down left right)
    div_rounded h = ap (λ (q : ℤ). int_wrapping_sub w64 q (pos 1)) exact ∙ one-less (int_div left right) ∙ ap wrapped (sym (lowered h))

    pub div_truncated : is_up ≡ false → passed quotient ≡ wrapped (rounded_down left right)
    div_truncated h = ap passed exact ∙ back (int_div left right) ∙ ap wrapped (sym (kept h))

  module _ (remainder : ℤ) (is : remainder ≡ int_rem (passed left) (passed right)) where
    pub mod_rounded : is_up ≡ true → int_wrapping_add w64 remainder right ≡ wrapped (left -ℤ (rounded_down left right *ℤ right))
    mod_rounded h =
        ap (λ (r : ℤ). int_wrapping_add w64 r right) (settled int_rem left right remainder f g is)
        ∙ add_is (int_rem left right) right (rem-fits left right f) g
        ∙ ap wrapped (sym (one-more left (int_div left right) right (int_rem left right) (quot-rem left right)) ∙ ap (λ (q : ℤ). left -ℤ (q *ℤ right)) (sym (lowered h)))

    pub mod_truncated : is_up ≡ false → passed remainder ≡ wrapped (left -ℤ (rounded_down left right *ℤ right))
    mod_truncated h =
        ap passed (settled int_rem left right remainder f g is ∙ rem_is left right f)
        ∙ back (int_rem left right)
        ∙ ap wrapped (sym (exactly left (int_div left right) right (int_rem left right) (quot-rem left right)) ∙ ap (λ (q : ℤ). left -ℤ (q *ℤ right)) (sym (kept h)))
