use Rattle.std.proofs.Common.{◌≡◌}
use Rattle.merc_operands.proofs.Chains.{stack_size}
use Rattle.merc_goals.specs.Faults.{earlier, first_span}
use Rattle.merc_flat.specs.UnknownNames.{unknown_on}
use Rattle.merc_flat.proofs.unknown.first_on.Given as goal

abbrev pub invariant-loop-term : goal.invariant-loop-term
invariant-loop-term l = earlier l.first (first_span (unknown_on l.known l.stack.items)) ≡ first_span (unknown_on l.known l.fn.stack.items)

abbrev pub decreases-loop-term : goal.decreases-loop-term
decreases-loop-term l = stack_size l.stack.items
