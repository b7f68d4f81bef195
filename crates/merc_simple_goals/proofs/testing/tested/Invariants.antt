use Rattle.std.proofs.Common.{◌≡◌, ◌||◌, ◌++◌, drop}
use Rattle.merc_order.specs.Bound.{among}
use Rattle.merc_order.specs.CallModes.{tested}
use Rattle.merc_simple_goals.proofs.testing.tested.Given as goal

abbrev pub invariant-loop-variable : goal.invariant-loop-variable
invariant-loop-variable l =
    l.tests.items ++ tested (λ variable. among l.bound variable || among l.seen variable) (drop l.variable-index l.variables) ≡ tested (among l.bound) l.variables
