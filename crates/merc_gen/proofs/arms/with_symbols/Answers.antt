use Rattle.merc_gen.proofs.Lists.{arms_cut}
use Rattle.merc_gen.proofs.arms.with_symbols.Goals as goal

pub loop-left-preserved : goal.loop-left-preserved
loop-left-preserved c = λ symbols e.
    arms_cut symbols c.loop-left.left c.take_last.new.self c.take_last.result c.len.result c.args.count _ c.len.ensures c.loop-left-test.true e c.take_last.ensures (c.loop-left.invariant symbols e)
