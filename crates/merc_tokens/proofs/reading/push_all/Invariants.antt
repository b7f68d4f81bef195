use Rattle.std.proofs.Common.{◌-◌, length}
use Rattle.merc_tokens.proofs.ReadsTo.{ReadsTo}
use Rattle.merc_tokens.proofs.reading.push_all.Given as goal

abbrev pub invariant-loop-at : goal.invariant-loop-at
invariant-loop-at l = ReadsTo l.text l.fn.names l.names l.tokens l.at l.line l.after_name

abbrev pub decreases-loop-at : goal.decreases-loop-at
decreases-loop-at l = length l.text - l.at
