use Rattle.std.proofs.Common.{◌≡◌, drop}
use Rattle.merc_order.specs.Bound.{among, are_bound}
use Rattle.merc_goal_facts.proofs.bound.BoundSet.are_bound.Given as goal

abbrev pub invariant-loop-variable : goal.invariant-loop-variable
invariant-loop-variable l = are_bound (among l.self) (drop l.variable-index l.variables) ≡ are_bound (among l.self) l.variables
