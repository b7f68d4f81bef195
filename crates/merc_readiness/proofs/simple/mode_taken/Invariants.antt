use Rattle.std.proofs.Common.{◌≡◌, ◌≤◌, drop, length}
use Rattle.merc_order.specs.Bound.{among}
use Rattle.merc_order.specs.CallModes.{taken_from}
use Rattle.merc_readiness.specs.CallModeCode.{in_short}
use Rattle.merc_readiness.proofs.simple.mode_taken.Given as goal

abbrev pub invariant-loop-index : goal.invariant-loop-index
invariant-loop-index l = record { within : l.index ≤ length l.modes; best : l.best ≡ in_short (taken_from l.index (among l.bound) l.arguments (drop l.index l.modes)) }

abbrev pub decreases-loop-index : goal.decreases-loop-index
decreases-loop-index l = l.index
