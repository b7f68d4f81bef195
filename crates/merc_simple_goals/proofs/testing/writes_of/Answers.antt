use Rattle.std.proofs.Common.{◌∙◌, ◌++◌, ap, arith}
use Rattle.std.specs.Option.{option_to_list}
use Rattle.merc_simple_goals.proofs.Tests.{written_more, written_all}
use Rattle.merc_simple_goals.proofs.testing.writes_of.Goals as goal

pub loop-index-preserved : goal.loop-index-preserved
loop-index-preserved c =
    written_more c.args.places.now c.args.arguments.now c.args.tests.now c.loop-index.index c.loop-index.all c.put_some.new.all _
    c.loop-index-test.true (c.in_ok-put_some.ensures ∙ ap (λ o. c.loop-index.all ++ option_to_list o) c.written_at.ensures) c.loop-index.invariant

pub returns : goal.returns
returns c = written_all c.args.places.now c.args.arguments.now c.args.tests.now c.loop-index.index c.loop-index.all _ (omega (arith, c.loop-index-test.false)) c.loop-index.invariant
