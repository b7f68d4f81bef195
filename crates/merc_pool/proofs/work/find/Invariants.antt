use Rattle.merc_pool.specs.Hands.{IsAllowed}
use Rattle.merc_pool.proofs.work.find.Given as goal

abbrev pub invariant-loop : goal.invariant-loop
invariant-loop g l =
    (goal.iterator-loop g).can_next l.iterator' × (goal.iterator-loop g).is_finite l.iterator' × g.B.Board.free l.shared.board l.worker.seat × IsAllowed g.M.Engine g.N.Asked g.B.Board l.worker
