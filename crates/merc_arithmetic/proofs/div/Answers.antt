use Rattle.merc_arithmetic.proofs.Wrapping.{div_rounded, div_truncated}
use Rattle.merc_arithmetic.proofs.div.Goals as goal

pub returns-then-is_rounded_up : goal.returns-then-is_rounded_up
returns-then-is_rounded_up c = div_rounded c.args.left c.args.right c.is_rounded_up.result c.ranges.left c.ranges.right c.is_rounded_up.ensures c.wrapping_div-quotient.result c.wrapping_div-quotient.ensures c.if-is_rounded_up.true

pub returns-else-is_rounded_up : goal.returns-else-is_rounded_up
returns-else-is_rounded_up c = div_truncated c.args.left c.args.right c.is_rounded_up.result c.ranges.left c.ranges.right c.is_rounded_up.ensures c.wrapping_div-quotient.result c.wrapping_div-quotient.ensures c.if-is_rounded_up.false
