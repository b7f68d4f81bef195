use Rattle.std.proofs.Common.{◌≡◌, drop}
use Rattle.merc_order.specs.Bound.{among}
use Rattle.merc_goal_order.specs.Watching.{none_bound}
use Rattle.merc_goal_order.proofs.watching.are_unbound.Given as goal

abbrev pub invariant-loop-variable : goal.invariant-loop-variable
invariant-loop-variable l = none_bound (drop l.variable-index l.variables) (among l.bound) ≡ none_bound l.variables (among l.bound)
