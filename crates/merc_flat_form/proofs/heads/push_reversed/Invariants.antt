use Rattle.std.proofs.Common.{◌≡◌, ◌++◌, length, reverse}
use Rattle.merc_flat_form.proofs.heads.push_reversed.Given as goal

abbrev pub invariant-loop-last : goal.invariant-loop-last
invariant-loop-last l = l.left.items ++ reverse l.rest.items ≡ l.fn.left.items ++ reverse l.fn.arguments.items

abbrev pub decreases-loop-last : goal.decreases-loop-last
decreases-loop-last l = length l.rest.items
