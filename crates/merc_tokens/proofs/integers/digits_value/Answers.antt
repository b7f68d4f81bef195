use Rattle.std.proofs.Common.{◌<◌, sym, ◌∙◌, arith, drop-cons, ap, ◌*◌, ◌+◌, get_or, drop, suc}
use Rattle.merc_tokens.specs.Bytes.{digit_of}
use Rattle.merc_tokens.specs.Integers.{integer_limit, digits_value, within_limit}
use Rattle.merc_tokens.proofs.Digits.{digits_value-above}
use Rattle.merc_tokens.proofs.integers.digits_value.Goals as goal

pub returns-then-next-gt-LIMIT : goal.returns-then-next-gt-LIMIT
returns-then-next-gt-LIMIT c =
    let byte = get_or c.args.digits.now c.loop-byte.byte-index 0 in
    let front = drop-cons c.args.digits.now c.loop-byte.byte-index 0 (omega arith) in
    let above : integer_limit < c.args.base * c.loop-byte.value + digit_of byte =
    rw (← c.digit_of.ensures, ← c.from-then-byte-ne95-2.ensures, ← c.from.ensures, ← c.from-then-byte-ne95.ensures) c.if-next-gt-LIMIT.true
    in
    let none = digits_value-above c.args.base c.loop-byte.value byte (drop (suc c.loop-byte.byte-index) c.args.digits.now) (omega arith) (omega arith) above in
    sym (ap within_limit (sym c.loop-byte.invariant.same ∙ ap (digits_value c.args.base c.loop-byte.value) front) ∙ none)
