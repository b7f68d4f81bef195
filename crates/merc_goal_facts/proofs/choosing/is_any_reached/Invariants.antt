use Rattle.std.proofs.Common.{◌≡◌, false, length}
use Rattle.merc_goal_facts.proofs.Arms.{any_on}
use Rattle.merc_goal_facts.proofs.choosing.is_any_reached.Given as goal

abbrev pub invariant-loop-rest : goal.invariant-loop-rest
invariant-loop-rest l = any_on l.facts l.any l.rest ≡ any_on l.facts false l.joined

abbrev pub decreases-loop-rest : goal.decreases-loop-rest
decreases-loop-rest l = length l.rest
