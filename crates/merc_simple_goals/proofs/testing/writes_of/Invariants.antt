use Rattle.std.proofs.Common.{◌≡◌, ◌++◌, drop}
use Rattle.merc_order.specs.Spelt.{written}
use Rattle.merc_simple_goals.proofs.testing.writes_of.Given as goal

abbrev pub invariant-loop-index : goal.invariant-loop-index
invariant-loop-index l = l.all ++ written (drop l.index l.places) (drop l.index l.arguments) (drop l.index l.tests) ≡ written l.places l.arguments l.tests
