use Rattle.merc_goal_facts.specs.Needs.{AreKept}
use Rattle.merc_goal_facts.proofs.needing.leave_out.Given as goal

abbrev pub invariant-loop-goal : goal.invariant-loop-goal
invariant-loop-goal l = AreKept l.fn.facts l.facts
