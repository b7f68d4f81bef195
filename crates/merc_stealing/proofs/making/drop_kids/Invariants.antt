use Rattle.std.proofs.Common.{◌≡◌, length}
use Rattle.merc_held_branches.specs.Kids.{HaveBerths}
use Rattle.merc_stealing.proofs.making.drop_kids.Given as goal

abbrev pub invariant-loop-kid : goal.invariant-loop-kid
invariant-loop-kid g l = (l.seat.passes ≡ l.fn.seat.passes) × HaveBerths g.N.Room.table l.kids.items

abbrev pub decreases-loop-kid : goal.decreases-loop-kid
decreases-loop-kid g l = length l.kids.items
