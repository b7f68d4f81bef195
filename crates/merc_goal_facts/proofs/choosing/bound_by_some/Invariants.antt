use Rattle.std.proofs.Common.{◌≡◌, [], length}
use Rattle.merc_goal_facts.proofs.Arms.{some_on}
use Rattle.merc_goal_facts.proofs.choosing.bound_by_some.Given as goal

abbrev pub invariant-loop-rest : goal.invariant-loop-rest
invariant-loop-rest l = record {
  same : l.set ≡ l.bound;
  bound : some_on l.facts l.any_reached l.bound l.rest ≡ some_on l.facts l.any_reached [] l.joined;
}

abbrev pub decreases-loop-rest : goal.decreases-loop-rest
decreases-loop-rest l = length l.rest
