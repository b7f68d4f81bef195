use Rattle.std.proofs.Common.{◌≡◌, ◌≤◌, drop}
use Rattle.merc_tokens.specs.Integers.{integer_limit, digits_value}
use Rattle.merc_tokens.proofs.integers.digits_value.Given as goal

-- The digits so far are taken into the value.
abbrev pub invariant-loop-byte : goal.invariant-loop-byte
invariant-loop-byte l = record {
  same : digits_value l.base l.value (drop l.byte-index l.digits) ≡ digits_value l.base 0 l.digits;
  small : l.value ≤ integer_limit;
}
