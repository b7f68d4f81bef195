use Rattle.merc_pool.specs.Hands.{IsAtWork}
use Rattle.merc_pool.proofs.work.work.Given as goal

abbrev pub invariant-loop : goal.invariant-loop
invariant-loop g l = (goal.iterator-loop g).can_next l.iterator' × (goal.iterator-loop g).is_finite l.iterator' × IsAtWork g.M.Engine g.N.Asked g.B.Board l.shared.board l.worker l.hand
