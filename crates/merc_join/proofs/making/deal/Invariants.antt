use Rattle.std.proofs.Common.{◌≡◌, ◌+◌, ◌≤◌, [], length}
use Rattle.std.specs.List.{All}
use Rattle.std.specs.Arc.{arc_value}
use Rattle.std.specs.Vec.{vec_capacity}
use Rattle.merc_join.specs.Join.{begun, IsSeated}
use Rattle.merc_join.specs.Tickets.{AreDealt}
use Rattle.merc_join.proofs.making.deal.Given as goal

abbrev pub invariant-loop-owner : goal.invariant-loop-owner
invariant-loop-owner g l = record {
  seated : IsSeated l.seat.table_id (arc_value l.table).shared.table_id;
  slots : (arc_value l.table).shared.table_id.slots ≡ l.children + 1;
  owners : All (λ owner. arc_value owner ≡ arc_value l.table) l.others.items;
  count : length l.others.items + length l.tickets.items + 1 ≡ l.children;
  view : l.seat.me ≡ (begun l.fn.room.seat.me.0.parent (length l.tickets.items) (length l.others.items + 1), []);
  dealt : AreDealt l.children l.fn.room.seat.me.0.parent l.seat.table_id l.tickets.items;
  capacity : l.children ≤ vec_capacity l.tickets;
}

abbrev pub decreases-loop-owner : goal.decreases-loop-owner
decreases-loop-owner g l = length l.others.items
