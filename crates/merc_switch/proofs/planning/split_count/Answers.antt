use Rattle.std.proofs.Common.{arith}
use Rattle.merc_switch_choice.proofs.SplitCounts.{counted}
use Rattle.merc_switch.proofs.planning.split_count.Goals as goal

pub returns : goal.returns
returns c = counted c.args.disjuncts.now c.loop-disjunct.count c.loop-disjunct.disjunct-index (omega (arith, c.loop-disjunct-test.false)) c.loop-disjunct.invariant
