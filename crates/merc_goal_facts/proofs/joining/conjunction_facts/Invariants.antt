use Rattle.std.proofs.Common.{◌≡◌, true, [], length}
use Rattle.merc_goal_facts.proofs.Joined.{reached_on, bound_on}
use Rattle.merc_goal_facts.proofs.joining.conjunction_facts.Given as goal

abbrev pub invariant-loop-rest : goal.invariant-loop-rest
invariant-loop-rest l = record {
  same : l.set ≡ l.binds;
  reached : reached_on l.facts l.reached l.rest ≡ reached_on l.facts true l.joined;
  binds : bound_on l.facts l.binds l.rest ≡ bound_on l.facts [] l.joined;
}

abbrev pub decreases-loop-rest : goal.decreases-loop-rest
decreases-loop-rest l = length l.rest
