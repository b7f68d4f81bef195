use Rattle.std.proofs.Common.{Some}
use Rattle.std.proofs.lemmas.List.Elements.{All-pop}
use Rattle.merc_pool.proofs.Slots.{idle, one_at_work}
use Rattle.merc_pool.proofs.session.idle_slots.Goals as goal

pub loop-seat-preserved : goal.loop-seat-preserved
loop-seat-preserved g c =
    let v = c.loop-seat.invariant in
    let s = c.slot_of.ensures in
    record {
      rest = λ board free. (All-pop (g.B.Board.free board) c.loop-seat.seats.items c.pop.new.self.items (Some c.in-Some.seat) c.in-Some.ensures.items (v.rest board free)).0;
      work = λ board free. rw (← c.in_ok-push.ensures.items) at (one_at_work g.M.Engine g.N.Asked g.B.Board board c.loop-seat.slots.items c.slot_of.result (v.work board free)
          (idle g.M.Engine g.N.Asked g.B.Board board c.in-Some.seat c.slot_of.result.worker c.slot_of.result.hand s.0 s.1 s.2
          (All-pop (g.B.Board.free board) c.loop-seat.seats.items c.pop.new.self.items (Some c.in-Some.seat) c.in-Some.ensures.items (v.rest board free)).1));
    }

pub returns-clause-work : goal.returns-clause-work
returns-clause-work g c = λ board free i slot at. c.loop-seat.invariant.work board free i slot (rw c.reserve.ensures.items at at)
