use Rattle.std.proofs.Common.{◌≡◌, drop}
use Rattle.merc_script.specs.declared.outcome.Outcome.TheVariants.{Ok as Fine}
use Rattle.merc_script.specs.Joining.{joined_behind}
use Rattle.merc_stealing.proofs.calls.join_all.Given as goal

abbrev pub invariant-loop-outcome : goal.invariant-loop-outcome
invariant-loop-outcome l = joined_behind l.limit l.before (drop l.outcome-index l.outcomes) ≡ joined_behind l.limit (Fine 0) l.outcomes
