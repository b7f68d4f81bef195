use Rattle.std.proofs.Common.{◌≡◌, ◌++◌, length, reverse}
use Rattle.merc_readiness.proofs.joined_goals.members.Given as goal

abbrev pub invariant-loop-last : goal.invariant-loop-last
invariant-loop-last l = l.rest ++ reverse l.members.items ≡ l.fn.goals

abbrev pub decreases-loop-last : goal.decreases-loop-last
decreases-loop-last l = length l.rest
