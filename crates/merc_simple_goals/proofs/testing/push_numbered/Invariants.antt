use Rattle.std.proofs.Common.{◌≡◌, ◌++◌, drop}
use Rattle.merc_order.specs.Spelt.{numbered}
use Rattle.merc_simple_goals.proofs.testing.push_numbered.Given as goal

abbrev pub invariant-loop-variable : goal.invariant-loop-variable
invariant-loop-variable l = l.all ++ numbered l.next (drop l._variable-index l.tested) ≡ l.fn.all ++ numbered l.at l.tested
