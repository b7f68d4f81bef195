use Rattle.std.proofs.Common.{◌≡◌, ◌≤◌, ◌+◌, length}
use Rattle.std.specs.Vec.{vec_capacity}
use Rattle.merc_held_branches.specs.Kids.{AreMade}
use Rattle.merc_stealing.proofs.placing.deal.Given as goal

abbrev pub invariant-loop-ticket : goal.invariant-loop-ticket
invariant-loop-ticket g l = record {
  made : AreMade g.M.Load.root g.M.Load.stands g.N.Room.table l.kids.items l.tickets.items;
  count : length l.sparks.items + length l.tickets.items ≡ length l.fn.tickets.items;
  room : length l.fn.tickets.items ≤ vec_capacity l.sparks;
}

abbrev pub decreases-loop-ticket : goal.decreases-loop-ticket
decreases-loop-ticket g l = length l.tickets.items
