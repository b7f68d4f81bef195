use Rattle.std.proofs.Common.{◌≡◌, ◌++◌, drop}
use Rattle.merc_rights.specs.Places.{starts_of}
use Rattle.merc_rights.proofs.members.starts.Given as goal

abbrev pub invariant-loop-goal : goal.invariant-loop-goal
invariant-loop-goal l = l.starts.items ++ starts_of l.start (drop l.goal-index l.goals) ≡ starts_of l.first l.goals
