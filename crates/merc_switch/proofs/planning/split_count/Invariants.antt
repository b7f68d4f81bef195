use Rattle.std.proofs.Common.{◌≡◌, ◌+◌, drop}
use Rattle.merc_switch_choice.proofs.SplitCounts.{split_total}
use Rattle.merc_switch.proofs.planning.split_count.Given as goal

abbrev pub invariant-loop-disjunct : goal.invariant-loop-disjunct
invariant-loop-disjunct l = l.count + split_total (drop l.disjunct-index l.disjuncts) ≡ split_total l.disjuncts
