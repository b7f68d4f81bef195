use Rattle.std.proofs.Common.{◌≡◌, ◌++◌, drop}
use Rattle.merc_plan.proofs.plan.Plan.of.Given as goal

abbrev pub invariant-loop-info : goal.invariant-loop-info
invariant-loop-info l = l.sites ++ drop l.info-index l.split.sites ≡ l.split.sites
