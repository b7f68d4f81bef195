use Rattle.std.proofs.Common.{◌≡◌, length}
use Rattle.merc_order.specs.Bound.{among, are_bound}
use Rattle.merc_order.specs.CallModes.{inputs_of}
use Rattle.merc_readiness.proofs.simple.are_inputs_bound.Given as goal

abbrev pub invariant-loop-left : goal.invariant-loop-left
invariant-loop-left l = are_bound (among l.bound) (inputs_of l.left l.rest) ≡ are_bound (among l.bound) (inputs_of l.places l.arguments)

abbrev pub decreases-loop-left : goal.decreases-loop-left
decreases-loop-left l = length l.left
