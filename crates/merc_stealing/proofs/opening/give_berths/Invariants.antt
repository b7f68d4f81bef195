use Rattle.std.proofs.Common.{◌≡◌}
use Rattle.std.specs.List.{All}
use Rattle.merc_yard.specs.Slots.{nowhere}
use Rattle.merc_yard.specs.Yards.{yard_table}
use Rattle.merc_yard.specs.Berths.{IsVacant}
use Rattle.merc_stealing.proofs.opening.give_berths.Given as goal

abbrev pub invariant-loop-i : goal.invariant-loop-i
invariant-loop-i g l = (l.seat.passes ≡ l.fn.seat.passes) × All (IsVacant (yard_table l.lot) nowhere) l.berths.items
