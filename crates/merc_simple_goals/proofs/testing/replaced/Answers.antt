use Rattle.merc_simple_goals.proofs.Tests.{replaced_more}
use Rattle.merc_simple_goals.proofs.testing.replaced.Goals as goal

pub loop-index-preserved : goal.loop-index-preserved
loop-index-preserved c =
    replaced_more c.loop-index.next c.in_ok-next.next c.args.variables.now c.args.tests.now c.loop-index.index c.index-variables-index.result c.is_tested.result c.loop-index.all c.put_replaced.new.all _
    c.loop-index-test.true c.index-variables-index.is c.is_tested.ensures c.in_ok-next.ensures.all c.in_ok-next.ensures.next c.loop-index.invariant
