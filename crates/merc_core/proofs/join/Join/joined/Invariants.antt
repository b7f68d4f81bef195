-- What is left to be joined, behind the outcomes before.
use Rattle.std.proofs.Common.{◌≡◌}
use Rattle.merc_core.specs.Outcomes.{joined_on, joined_at}
use Rattle.merc_core.proofs.join.Join.joined.Given as goal

abbrev pub invariant-loop-stored : goal.invariant-loop-stored
invariant-loop-stored l = joined_on l.self.limit l.before l.stored-iterator ≡ joined_at l.self
