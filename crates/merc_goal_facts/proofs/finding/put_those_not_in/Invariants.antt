use Rattle.std.proofs.Common.{◌≡◌, ◌++◌, not, drop}
use Rattle.std.specs.List.{filter}
use Rattle.merc_order.specs.Bound.{among}
use Rattle.merc_goal_facts.proofs.finding.put_those_not_in.Given as goal

abbrev pub invariant-loop-variable : goal.invariant-loop-variable
invariant-loop-variable l =
    l.found ++ filter (λ variable. not (among l.set variable)) (drop l.variable-index l.variables) ≡ l.fn.found ++ filter (λ variable. not (among l.set variable)) l.variables
