use Rattle.std.proofs.Common.{◌≡◌, ◌≤◌, ◌++◌, length}
use Rattle.std.specs.Vec.{vec_capacity}
use Rattle.merc_board.specs.Rights.{no_rights}
use Rattle.merc_held_branches.specs.Kids.{AreFor, HaveBerths}
use Rattle.merc_stealing.proofs.making.make_kids.Given as goal

abbrev pub invariant-loop-load : goal.invariant-loop-load
invariant-loop-load g l = record {
  passes : l.seat.passes ≡ l.fn.seat.passes;
  whole : l.yielded ++ l.load-iterator.rest.items ≡ l.fn.loads.items;
  made : AreFor g.N.Room.table l.room l.yielded (λ _. no_rights) l.kids.items;
  berths : HaveBerths g.N.Room.table l.kids.items;
  capacity : length l.fn.loads.items ≤ vec_capacity l.kids;
}
