use Rattle.merc_arithmetic.proofs.Wrapping.{mod_rounded, mod_truncated}
use Rattle.merc_arithmetic.proofs.modulo.Goals as goal

pub returns-then-is_rounded_up : goal.returns-then-is_rounded_up
returns-then-is_rounded_up c = mod_rounded c.args.left c.args.right c.is_rounded_up.result c.ranges.left c.ranges.right c.is_rounded_up.ensures c.wrapping_rem-remainder.result c.wrapping_rem-remainder.ensures c.if-is_rounded_up.true

pub returns-else-is_rounded_up : goal.returns-else-is_rounded_up
returns-else-is_rounded_up c = mod_truncated c.args.left c.args.right c.is_rounded_up.result c.ranges.left c.ranges.right c.is_rounded_up.ensures c.wrapping_rem-remainder.result c.wrapping_rem-remainder.ensures c.if-is_rounded_up.false
