use Rattle.std.proofs.Common.{reverse, arith, take}
use Rattle.std.proofs.lemmas.List.{length-reverse}
use Rattle.std.proofs.lemmas.List.Sums.{prefix_len-le-length}
use Rattle.merc_tokens.specs.Bytes.{is_underscore}
use Rattle.merc_tokens.proofs.integers.more_digits_len.Goals as goal

pub overflow_sub-result : goal.overflow_sub-result
overflow_sub-result c =
    let run = take c.run_len.result c.args.text.now in
    omega (arith, c.trailing_underscores.ensures, prefix_len-le-length is_underscore (reverse run), length-reverse run)
