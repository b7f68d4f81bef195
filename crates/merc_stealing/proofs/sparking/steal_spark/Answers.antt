use Rattle.std.proofs.Common.{rules}
use Rattle.merc_stealing.proofs.Looking.{few_more}
use Rattle.merc_stealing.proofs.sparking.steal_spark.Goals as goal

pub loop-other-preserved : goal.loop-other-preserved
loop-other-preserved g c = (search rules, search rules, few_more c.loop-other.other c.args.seat.now.number c.loop-other.seat.passes.items c.steal_at.new.seat.passes.items c.loop-other.invariant.2 (search rules))
