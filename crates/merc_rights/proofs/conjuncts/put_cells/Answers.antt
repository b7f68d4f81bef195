use Rattle.merc_rights.proofs.Indexes.{map_more_at, map_all}
use Rattle.merc_rights.proofs.conjuncts.put_cells.Goals as goal

pub loop-consumer-preserved : goal.loop-consumer-preserved
loop-consumer-preserved c =
    map_more_at (λ consumer. record { variable = c.args.variable; producer = c.args.producer; consumer = consumer }) c.args.consumers.now c.loop-consumer.consumer-index 0 c.args.cells.now.items c.loop-consumer.cells.items c.push.new.self.items
    c.loop-consumer-test.true c.loop-consumer.invariant c.in_ok-push.ensures.items

pub returns : goal.returns
returns c = map_all (λ consumer. record { variable = c.args.variable; producer = c.args.producer; consumer = consumer }) c.args.consumers.now c.loop-consumer.consumer-index c.args.cells.now.items c.loop-consumer.cells.items c.loop-consumer-test.false c.loop-consumer.invariant
