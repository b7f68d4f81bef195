use Rattle.std.proofs.Common.{◌≡◌, ◌++◌, length}
use Rattle.std.specs.Prelude.{reverse}
use Rattle.merc_switch.proofs.planning.disjuncts_of.Given as goal

abbrev pub invariant-loop-last : goal.invariant-loop-last
invariant-loop-last l = l.disjuncts.items ++ reverse l.goals ≡ reverse l.fn.goals

abbrev pub decreases-loop-last : goal.decreases-loop-last
decreases-loop-last l = length l.goals
