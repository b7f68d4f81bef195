use Rattle.std.proofs.Common.{◌≡◌, ◌++◌, drop}
use Rattle.merc_order.specs.Spelt.{replaced}
use Rattle.merc_simple_goals.proofs.testing.replaced.Given as goal

abbrev pub invariant-loop-index : goal.invariant-loop-index
invariant-loop-index l = l.all ++ replaced l.next (drop l.index l.variables) (drop l.index l.tests) ≡ replaced l.at l.variables l.tests
