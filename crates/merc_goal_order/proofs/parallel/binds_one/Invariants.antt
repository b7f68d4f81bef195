use Rattle.std.proofs.Common.{◌≡◌, ◌&&◌, not, drop}
use Rattle.std.specs.List.{list_any}
use Rattle.merc_order.specs.Bound.{among}
use Rattle.merc_goal_order.proofs.parallel.binds_one.Given as goal

abbrev pub invariant-loop-variable : goal.invariant-loop-variable
invariant-loop-variable l =
    list_any (λ variable. not (among l.bound variable) && among l.inside variable) (drop l.variable-index l.variables)
    ≡ list_any (λ variable. not (among l.bound variable) && among l.inside variable) l.variables
