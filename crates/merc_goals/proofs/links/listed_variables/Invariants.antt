use Rattle.std.proofs.Common.{◌≡◌}
use Rattle.merc_goals.specs.Written.{parts, listed_variables}
use Rattle.merc_goals.proofs.Lists.{behind}
use Rattle.merc_goals.proofs.links.listed_variables.Given as goal

abbrev pub invariant-loop-cell : goal.invariant-loop-cell
invariant-loop-cell l = behind l.names (listed_variables l.rest) ≡ listed_variables l.list

abbrev pub decreases-loop-cell : goal.decreases-loop-cell
decreases-loop-cell l = parts l.rest
