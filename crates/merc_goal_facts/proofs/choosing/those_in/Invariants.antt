use Rattle.std.proofs.Common.{◌≡◌, ◌++◌, drop}
use Rattle.std.specs.List.{filter}
use Rattle.merc_order.specs.Bound.{among}
use Rattle.merc_goal_facts.proofs.choosing.those_in.Given as goal

abbrev pub invariant-loop-variable : goal.invariant-loop-variable
invariant-loop-variable l =
    l.both ++ filter (λ variable. among l.set variable) (drop l.variable-index l.variables) ≡ filter (λ variable. among l.set variable) l.variables
