-- The bytes so far are digits, which are taken into the number.
use Rattle.std.proofs.Common.{◌≡◌, ◌≤◌, All, ℕ, true, take, drop}
use Rattle.merc_tokens.specs.Bytes.{is_digit_of}
use Rattle.merc_tokens.specs.Integers.{digits_value}
use Rattle.merc_words.proofs.settings.number_in.Given as goal

abbrev pub invariant-loop-byte : goal.invariant-loop-byte
invariant-loop-byte l = record {
  digits : All (λ (byte : ℕ). is_digit_of 10 byte ≡ true) (take l.byte-index l.text);
  value : digits_value 10 l.number (drop l.byte-index l.text) ≡ digits_value 10 0 l.text;
  small : l.number ≤ l.high;
}
