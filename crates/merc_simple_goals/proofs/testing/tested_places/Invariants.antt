use Rattle.std.proofs.Common.{◌≡◌, ◌++◌, drop}
use Rattle.merc_order.specs.Spelt.{tested_places}
use Rattle.merc_simple_goals.proofs.testing.tested_places.Given as goal

abbrev pub invariant-loop-index : goal.invariant-loop-index
invariant-loop-index l = l.all ++ tested_places (drop l.index l.variables) (drop l.index l.tests) ≡ tested_places l.variables l.tests
