use Rattle.merc_type_matching.specs.Matching.{left_weight, AreFound}
use Rattle.merc_type_matching.proofs.matching.pairs_between.Given as goal

abbrev pub invariant-loop-part : goal.invariant-loop-part
invariant-loop-part l = AreFound l.table l.found l.parts.items l.fn.whole

abbrev pub decreases-loop-part : goal.decreases-loop-part
decreases-loop-part l = left_weight l.table l.parts.items
