use Rattle.std.proofs.Common.{length}
use Rattle.std.specs.List.{All}
use Rattle.merc_cell.specs.Ends.{consumer_name}
use Rattle.merc_held_branches.specs.Beds.{IsNamed}
use Rattle.merc_stealing.proofs.preparing.take_waits.Given as goal

abbrev pub invariant-loop-right : goal.invariant-loop-right
invariant-loop-right g l = All (λ right. IsNamed g.N.Room.table (consumer_name right.end)) l.from.items × All (λ right. IsNamed g.N.Room.table (consumer_name right.end)) l.to.items

abbrev pub decreases-loop-right : goal.decreases-loop-right
decreases-loop-right g l = length l.from.items
