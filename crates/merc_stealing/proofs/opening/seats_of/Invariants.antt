use Rattle.std.proofs.Common.{length}
use Rattle.std.specs.List.{All}
use Rattle.merc_yard.specs.Slots.{nowhere}
use Rattle.merc_yard.specs.Yards.{yard_table}
use Rattle.merc_yard.specs.Berths.{IsVacant}
use Rattle.merc_stealing.specs.Seats.{ArePasses}
use Rattle.merc_stealing.proofs.opening.seats_of.Given as goal

abbrev pub invariant-loop-sparks : goal.invariant-loop-sparks
invariant-loop-sparks g l = All (IsVacant (yard_table l.lot) nowhere) l.berths.items × All (λ seat. ArePasses l.thieves seat.passes.items) l.seats.items

abbrev pub decreases-loop-sparks : goal.decreases-loop-sparks
decreases-loop-sparks g l = length l.lists.items
