use Rattle.std.proofs.Common.{◌≡◌, ◌++◌, drop}
use Rattle.merc_order.specs.Spelt.{untested_places}
use Rattle.merc_simple_goals.proofs.testing.untested_places.Given as goal

abbrev pub invariant-loop-index : goal.invariant-loop-index
invariant-loop-index l = l.all ++ untested_places (drop l.index l.variables) (drop l.index l.tests) ≡ untested_places l.variables l.tests
