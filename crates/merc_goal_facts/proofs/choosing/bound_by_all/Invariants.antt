use Rattle.std.proofs.Common.{◌≡◌, ℕ, true, [], length}
use Rattle.merc_goal_facts.specs.Arms.{among_all}
use Rattle.merc_goal_facts.proofs.Arms.{all_on}
use Rattle.merc_goal_facts.proofs.choosing.bound_by_all.Given as goal

abbrev pub invariant-loop-rest : goal.invariant-loop-rest
invariant-loop-rest l = record {
  cleared : l.set ≡ [];
  bound : (variable : ℕ) → all_on l.facts l.any_reached variable (among_all l.bound variable) l.rest ≡ all_on l.facts l.any_reached variable true l.joined;
}

abbrev pub decreases-loop-rest : goal.decreases-loop-rest
decreases-loop-rest l = length l.rest
