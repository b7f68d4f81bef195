use Rattle.std.proofs.Common.{◌≡◌, [], length}
use Rattle.merc_goal_facts.proofs.Needs.{brought_on}
use Rattle.merc_goal_facts.proofs.needing.brought_by_some.Given as goal

abbrev pub invariant-loop-rest : goal.invariant-loop-rest
invariant-loop-rest l = record {
  cleared : l.set ≡ [];
  brought : brought_on l.facts l.brought l.rest ≡ brought_on l.facts [] l.joined;
}

abbrev pub decreases-loop-rest : goal.decreases-loop-rest
decreases-loop-rest l = length l.rest
