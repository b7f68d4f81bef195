use Rattle.std.proofs.Common.{◌≡◌, ◌++◌, length}
use Rattle.merc_order.specs.CallModes.{inputs_of}
use Rattle.merc_goal_facts.proofs.needing.inputs_of.Given as goal

abbrev pub invariant-loop-left : goal.invariant-loop-left
invariant-loop-left l = l.inputs ++ inputs_of l.left l.rest ≡ inputs_of l.places l.arguments

abbrev pub decreases-loop-left : goal.decreases-loop-left
decreases-loop-left l = length l.left
