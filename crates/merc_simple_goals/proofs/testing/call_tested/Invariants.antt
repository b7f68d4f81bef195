use Rattle.std.proofs.Common.{◌≡◌, ◌||◌, ◌++◌, length}
use Rattle.merc_order.specs.Bound.{among}
use Rattle.merc_order.specs.CallModes.{call_tested}
use Rattle.merc_simple_goals.proofs.testing.call_tested.Given as goal

abbrev pub invariant-loop-left : goal.invariant-loop-left
invariant-loop-left l =
    l.tests.items ++ call_tested (λ variable. among l.bound variable || among l.seen variable) l.left l.rest ≡ call_tested (among l.bound) l.places l.arguments

abbrev pub decreases-loop-left : goal.decreases-loop-left
decreases-loop-left l = length l.left
