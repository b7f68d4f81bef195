use Rattle.std.proofs.Common.{◌≡◌, ◌++◌, length, reverse}
use Rattle.merc_tree.specs.Shape.{arguments_of}
use Rattle.merc_operands.proofs.listing.arguments.Given as goal

abbrev pub invariant-loop-last : goal.invariant-loop-last
invariant-loop-last l = l.rest ++ reverse l.arguments.items ≡ arguments_of l.term

abbrev pub decreases-loop-last : goal.decreases-loop-last
decreases-loop-last l = length l.rest
