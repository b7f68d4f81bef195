use Rattle.std.proofs.Common.{◌≡◌, ◌++◌, length, reverse}
use Rattle.merc_graded_tree.proofs.pushing.push_all.Given as goal

abbrev pub invariant-loop-last : goal.invariant-loop-last
invariant-loop-last l = l.left.items ++ reverse l.goals ≡ l.fn.left.items ++ reverse l.fn.goals

abbrev pub decreases-loop-last : goal.decreases-loop-last
decreases-loop-last l = length l.goals
