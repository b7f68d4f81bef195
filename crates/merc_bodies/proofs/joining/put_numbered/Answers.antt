use Rattle.merc_bodies.proofs.InHand.{one_joined}
use Rattle.merc_bodies.proofs.Parts.{item_left}
use Rattle.merc_bodies.proofs.joining.put_numbered.Goals as goal

pub loop-clause-preserved : goal.loop-clause-preserved
loop-clause-preserved c =
    one_joined c.loop-clause.numbering c.take.new.self c.clause-item.result _ _ c.loop-clause.nodes c.push_renamed.new.nodes _
    (item_left c.args.clauses.now c.loop-clause.clause-index c.clause-item.result c.loop-clause-test.true c.clause-item.is)
    c.in_ok-take.ensures.goes_on c.in_ok-push_renamed.ensures c.loop-clause.invariant
