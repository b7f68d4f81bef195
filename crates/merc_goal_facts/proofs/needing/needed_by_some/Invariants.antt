use Rattle.std.proofs.Common.{◌≡◌, [], length}
use Rattle.merc_goal_facts.proofs.Needs.{needed_on}
use Rattle.merc_goal_facts.proofs.needing.needed_by_some.Given as goal

abbrev pub invariant-loop-rest : goal.invariant-loop-rest
invariant-loop-rest l = record {
  same : l.set ≡ l.needed;
  needed : needed_on l.facts l.needed l.rest ≡ needed_on l.facts [] l.joined;
}

abbrev pub decreases-loop-rest : goal.decreases-loop-rest
decreases-loop-rest l = length l.rest
