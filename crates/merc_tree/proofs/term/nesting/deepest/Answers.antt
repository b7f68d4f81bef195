use Rattle.merc_tree.proofs.PartLaws.{deepest_step, deepest_end}
use Rattle.merc_tree.proofs.term.nesting.deepest.Goals as goal

pub loop-part-preserved : goal.loop-part-preserved
loop-part-preserved c =
    deepest_step c.args.parts.now c.loop-part.part-index c.loop-part.deepest c.max-deepest.result c.part-item.result c.loop-part-test.true c.part-item.is c.max-deepest.ensures
    c.loop-part.invariant

pub returns : goal.returns
returns c = deepest_end c.args.parts.now c.loop-part.part-index c.loop-part.deepest c.loop-part-test.false c.loop-part.invariant
