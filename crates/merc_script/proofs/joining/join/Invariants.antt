-- The outcomes that are left are joined behind those before.
use Rattle.std.proofs.Common.{◌≡◌, drop}
use Rattle.merc_script.specs.Joining.{joined_behind, joined}
use Rattle.merc_script.proofs.joining.join.Given as goal

abbrev pub invariant-loop-outcome : goal.invariant-loop-outcome
invariant-loop-outcome l = joined_behind l.limit l.before (drop l.outcome-index l.outcomes) ≡ joined l.limit l.outcomes
