use Rattle.std.proofs.Common.{◌<◌, length}
use Rattle.merc_switch_choice.proofs.counted.fewest_of.Given as goal

abbrev pub invariant-loop-index : goal.invariant-loop-index
invariant-loop-index l = 0 < length l.disjuncts → l.fewest < length l.disjuncts
