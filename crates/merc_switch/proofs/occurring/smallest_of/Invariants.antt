use Rattle.std.proofs.Common.{◌<◌, length}
use Rattle.merc_switch.proofs.occurring.smallest_of.Given as goal

abbrev pub invariant-loop-index : goal.invariant-loop-index
invariant-loop-index l = 0 < length l.disjuncts → l.smallest < length l.disjuncts
