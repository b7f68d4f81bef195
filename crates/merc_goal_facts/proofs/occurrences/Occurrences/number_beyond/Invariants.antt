use Rattle.std.proofs.Common.{◌≡◌, ◌≤◌, drop, length}
use Rattle.merc_order.specs.Procedures.{beyond}
use Rattle.merc_goal_facts.proofs.occurrences.Occurrences.number_beyond.Given as goal

abbrev pub invariant-loop-index : goal.invariant-loop-index
invariant-loop-index l = record { within : l.index ≤ length l.self; number : l.number ≡ beyond (drop l.index l.self) }

abbrev pub decreases-loop-index : goal.decreases-loop-index
decreases-loop-index l = l.index
