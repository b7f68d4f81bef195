use Rattle.std.proofs.Common.{◌≡◌, ◌++◌, reverse, length}
use Rattle.merc_rights.proofs.members.listed.Given as goal

abbrev pub invariant-loop-last : goal.invariant-loop-last
invariant-loop-last l = l.left ++ reverse l.goals.items ≡ l.fn.parts

abbrev pub decreases-loop-last : goal.decreases-loop-last
decreases-loop-last l = length l.left
