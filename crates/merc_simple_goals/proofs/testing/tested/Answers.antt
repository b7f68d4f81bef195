use Rattle.merc_order.specs.Bound.{among}
use Rattle.merc_simple_goals.proofs.Tests.{tested_more}
use Rattle.merc_simple_goals.proofs.testing.tested.Goals as goal

pub loop-variable-preserved : goal.loop-variable-preserved
loop-variable-preserved c =
    tested_more (among c.args.bound.now) c.loop-variable.seen c.put_test.new.seen c.args.variables.now c.loop-variable.variable-index c.variable-item.result c.loop-variable.tests.items c.put_test.new.tests.items _
    c.loop-variable-test.true c.variable-item.is c.in_ok-put_test.ensures.seen c.in_ok-put_test.ensures.tests c.loop-variable.invariant
