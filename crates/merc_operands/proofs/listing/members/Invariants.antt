use Rattle.std.proofs.Common.{◌≡◌, ◌++◌, ◌∷◌, []}
use Rattle.merc_operands.specs.Members.{chain, stacked}
use Rattle.merc_operands.proofs.Chains.{stack_size}
use Rattle.merc_operands.proofs.listing.members.Given as goal

abbrev pub invariant-loop-first : goal.invariant-loop-first
invariant-loop-first l = l.members.items ++ stacked l.operator (l.stack.items ++ l.term ∷ []) ≡ chain l.operator l.root

abbrev pub decreases-loop-first : goal.decreases-loop-first
decreases-loop-first l = stack_size (l.stack.items ++ l.term ∷ [])
