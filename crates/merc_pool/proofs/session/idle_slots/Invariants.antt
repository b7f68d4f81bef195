use Rattle.std.proofs.Common.{◌≡◌, length}
use Rattle.std.specs.Prelude.{All}
use Rattle.merc_pool.specs.Working.{AllAtWork}
use Rattle.merc_pool.proofs.session.idle_slots.Given as goal

abbrev pub invariant-loop-seat : goal.invariant-loop-seat
invariant-loop-seat g l = record {
  rest : (board : _) → All (g.B.Board.free board) l.fn.seats.items → All (g.B.Board.free board) l.seats.items;
  work : (board : _) → All (g.B.Board.free board) l.fn.seats.items → AllAtWork g.M.Engine g.N.Asked g.B.Board board l.slots.items;
}

abbrev pub decreases-loop-seat : goal.decreases-loop-seat
decreases-loop-seat g l = length l.seats.items
