-- Numbers in decimal.
use Rattle.std.proofs.Common.{◌≡◌, ◌≢◌, ◌∙◌, ◌<◌, ◌≤◌, ◌+◌, ◌-◌, ◌*◌, ℕ, zero, suc, List, [], ◌∷◌, All, ap, sym, refl, length, take, drop, take_all, drop-cons, get_or, arith, true}
use Rattle.std.proofs.lemmas.Bool.{ne_eqb}
use Rattle.std.proofs.lemmas.Bool.Decides.{nat_tests}
use Rattle.std.proofs.lemmas.List.Elements.{All-more, All-same}
use Rattle.merc_base.specs.Characters.{underscore_code}
use Rattle.merc_tokens.specs.Bytes.{digit_of, is_digit_of}
use Rattle.merc_tokens.specs.Integers.{digits_value}
use Rattle.merc_tokens.proofs.Digits.{digits_value-le}

digit-value : (byte : ℕ) → 48 ≤ byte → byte ≤ 57 → digit_of byte ≡ byte - 48
digit-value byte low high = grind (arith, nat_tests, low, high)

digit-is : (byte : ℕ) → 48 ≤ byte → byte ≤ 57 → is_digit_of 10 byte ≡ true
digit-is byte low high = rw (digit-value byte low high) (grind (arith, nat_tests, low, high))

no_underscore : (byte : ℕ) → byte ≤ 57 → byte ≢ underscore_code
no_underscore byte high same = omega (arith, high, same)

value-more : (value byte : ℕ) (rest : List ℕ) → 48 ≤ byte → byte ≤ 57 → digits_value 10 value (byte ∷ rest) ≡ digits_value 10 (10 * value + (byte - 48)) rest
value-more value byte rest low high = rw (ne_eqb byte underscore_code (no_underscore byte high), digit-value byte low high) refl

-- What follows speaks of a byte of a text that is a digit.
module _ (text : List ℕ) (at value next : ℕ) (within : at < length text) (low : 48 ≤ get_or text at 0) (high : get_or text at 0 ≤ 57) (next_is : next ≡ 10 * value + (get_or text at 0 - 48)) where
  pub digits-more : All (λ (byte : ℕ). is_digit_of 10 byte ≡ true) (take at text) → All (λ (byte : ℕ). is_digit_of 10 byte ≡ true) (take (at + 1) text)
  digits-more digits = All-more (λ (byte : ℕ). is_digit_of 10 byte ≡ true) text at 0 within digits (digit-is (get_or text at 0) low high)

  pub value-next : digits_value 10 value (drop at text) ≡ digits_value 10 next (drop (at + 1) text)
  value-next =
      ap (λ (some : List ℕ). digits_value 10 value some) (drop-cons text at 0 within) ∙ value-more value (get_or text at 0) (drop (suc at) text) low high
      ∙ ap (λ (some : ℕ). digits_value 10 some (drop (suc at) text)) (sym next_is) ∙ ap (λ (some : ℕ). digits_value 10 next (drop some text)) (more at)
    where
      more : (n : ℕ) → suc n ≡ n + 1
      more n = omega arith

  -- a number does not fall as digits are put behind it
  pub value-least : digits_value 10 value (drop at text) ≡ digits_value 10 0 text → next ≤ digits_value 10 0 text
  value-least same = let least = digits_value-le 10 next (drop (at + 1) text) (omega arith) in omega (arith, same, value-next, least)

pub value-all : (text : List ℕ) (at value : ℕ) → length text ≤ at → digits_value 10 value (drop at text) ≡ digits_value 10 0 text → value ≡ digits_value 10 0 text
value-all text at value past same = ap (λ (some : List ℕ). digits_value 10 value some) (sym (none_left text at past)) ∙ same
  where
    none_left : (text : List ℕ) (at : ℕ) → length text ≤ at → drop at text ≡ []
    none_left [] zero past = refl
    none_left [] (suc at) past = refl
    none_left (first ∷ rest) zero past = absurd (omega (arith, past))
    none_left (first ∷ rest) (suc at) past = none_left rest at (omega (arith, past))

pub digits-all : (text : List ℕ) (at : ℕ) → length text ≤ at → All (λ (byte : ℕ). is_digit_of 10 byte ≡ true) (take at text) → All (λ (byte : ℕ). is_digit_of 10 byte ≡ true) text
digits-all text at past digits = All-same (λ (byte : ℕ). is_digit_of 10 byte ≡ true) text (take at text) (sym (take_all at text past)) digits
