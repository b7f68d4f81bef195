use Rattle.merc_order.specs.Procedures.{modes_of}
use Rattle.merc_modes.proofs.Procedures.{next_predicate}
use Rattle.merc_modes.proofs.ordering.order.Goals as goal

pub loop-index-preserved : goal.loop-index-preserved
loop-index-preserved c =
    next_predicate (modes_of c.args.predicates.now) c.args.predicates.now c.args.bodies.now c.loop-index.index c.index-predicates-index.result c.in-Some.goal c.loop-index.found c.order_modes.new.found
    c.loop-index-test.true c.index-predicates-index.is c.in-Some.ensures c.loop-index.invariant c.in_ok-order_modes-in-Some.ensures
