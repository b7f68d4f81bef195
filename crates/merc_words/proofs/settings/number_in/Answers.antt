-- The bytes are digits, and the number is theirs.
use Rattle.std.proofs.Common.{◌<◌, ◌≤◌, length, ◌+◌, ◌*◌, ◌∙◌, sym, arith}
use Rattle.std.proofs.lemmas.Bool.Decides.{nat_tests}
use Rattle.merc_words.proofs.Digits.{digits-all, digits-more, value-all, value-least, value-next}
use Rattle.merc_words.proofs.settings.number_in.Goals as goal

pub returns-then-number-high : goal.returns-then-number-high
returns-then-number-high c = λ number is.
    let digit = c.if-not-is_ascii_digit.ensures.cases in
    let least = value-least c.args.text.now c.loop-byte.byte-index c.loop-byte.number (10 * c.loop-byte.number + c.from.result) (omega (arith, c.loop-byte-test.true)) digit.0 digit.1 (omega (arith, c.from.ensures)) c.loop-byte.invariant.value in
    let most : number ≤ c.args.high = is.not_more in
    omega (arith, least, is.value, most, c.if-number-high.true)

pub loop-byte-preserved : goal.loop-byte-preserved
loop-byte-preserved c =
    let digit = c.if-not-is_ascii_digit.ensures.cases in
    let within : c.loop-byte.byte-index < length c.args.text.now = omega (arith, c.loop-byte-test.true) in
    let kept = c.loop-byte.invariant in
    record {
      digits = digits-more c.args.text.now c.loop-byte.byte-index c.loop-byte.number (10 * c.loop-byte.number + c.from.result) within digit.0 digit.1 (omega (arith, c.from.ensures)) kept.digits;
      value = sym (value-next c.args.text.now c.loop-byte.byte-index c.loop-byte.number (10 * c.loop-byte.number + c.from.result) within digit.0 digit.1 (omega (arith, c.from.ensures))) ∙ kept.value;
      small = omega (arith, c.if-number-high.false);
    }

pub returns-else-number-low : goal.returns-else-number-low
returns-else-number-low c =
    let kept = c.loop-byte.invariant in
    let past : length c.args.text.now ≤ c.loop-byte.byte-index = omega (arith, c.loop-byte-test.false) in
    record {
      digits = digits-all c.args.text.now c.loop-byte.byte-index past kept.digits;
      some = grind (arith, nat_tests, c.if-is_empty.ensures);
      few = omega (arith, c.if-text-gt-DIGIT_LIMIT.false);
      value = value-all c.args.text.now c.loop-byte.byte-index c.loop-byte.number past kept.value;
      not_less = omega (arith, c.if-number-low.false);
      not_more = kept.small;
    }
