use Rattle.std.proofs.Common.{◌≡◌}
use Rattle.merc_order.specs.Procedures.{numbers_below}
use Rattle.merc_modes.proofs.ordering.numbers_below.Given as goal

abbrev pub invariant-loop-number : goal.invariant-loop-number
invariant-loop-number l = l.heads.items ≡ numbers_below l.number
