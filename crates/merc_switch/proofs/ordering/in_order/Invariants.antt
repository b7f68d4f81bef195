use Rattle.std.proofs.Common.{length}
use Rattle.merc_switch.proofs.OrderedOutputs.{Remain}
use Rattle.merc_switch.proofs.ordering.in_order.Given as goal

abbrev pub invariant-loop-place : goal.invariant-loop-place
invariant-loop-place l = Remain l.variables l.outputs l.places.keys l.kept

abbrev pub decreases-loop-place : goal.decreases-loop-place
decreases-loop-place l = length l.places.keys
