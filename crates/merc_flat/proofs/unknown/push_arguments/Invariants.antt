use Rattle.std.proofs.Common.{◌≡◌, length}
use Rattle.merc_tree.specs.Shape.{arguments_of}
use Rattle.merc_flat.specs.UnknownNames.{stacked}
use Rattle.merc_flat.proofs.unknown.push_arguments.Given as goal

abbrev pub invariant-loop-last : goal.invariant-loop-last
invariant-loop-last l = stacked l.stack.items l.rest ≡ stacked l.fn.stack.items (arguments_of l.term)

abbrev pub decreases-loop-last : goal.decreases-loop-last
decreases-loop-last l = length l.rest
