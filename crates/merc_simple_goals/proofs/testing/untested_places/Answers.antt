use Rattle.merc_simple_goals.proofs.Tests.{untested_places_more}
use Rattle.merc_simple_goals.proofs.testing.untested_places.Goals as goal

pub loop-index-preserved : goal.loop-index-preserved
loop-index-preserved c =
    untested_places_more c.args.variables.now c.args.tests.now c.loop-index.index c.index-variables-index.result c.is_tested.result c.loop-index.all c.put_if.new.all _
    c.loop-index-test.true c.index-variables-index.is c.is_tested.ensures c.in_ok-put_if.ensures c.loop-index.invariant
