use Rattle.std.proofs.Common.{arith}
use Rattle.merc_pool.proofs.Ends.{has-answer}
use Rattle.merc_pool.proofs.ending.came.Goals as goal

pub returns-in-Some-clause-hand : goal.returns-in-Some-clause-hand
returns-in-Some-clause-hand g c = λ board seat came.
    let w = c.deref_mut.ensures.value in
    let added = rw c.deref.ensures at c.in-Some.ensures.1 in
    let there = rw c.in-Answer.is at came in
    rw w (has-answer g.M.Engine g.N.Asked g.B.Board board seat c.args.branch.value c.in-Some.given (omega (arith, added)) there)
