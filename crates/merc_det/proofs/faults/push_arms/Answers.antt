use Rattle.std.proofs.Common.{length, refl}
use Rattle.merc_det.proofs.Pushing.{bodies_step, bodies_end}
use Rattle.merc_det.proofs.faults.push_arms.Goals as goal

pub loop-last-preserved : goal.loop-last-preserved
loop-last-preserved c =
    bodies_step c.args.symbols.now c.loop-last.left.items c.push_if.new.left.items c.loop-last.arms c.take_last.new.self c.in-Some.last c.len.result (length c.args.symbols.now) _ c.in-Some.ensures
    c.len.ensures refl c.in_ok-push_if.ensures c.loop-last.invariant

pub returns : goal.returns
returns c = bodies_end c.args.symbols.now c.loop-last.left.items c.loop-last.arms _ c.in_default.ensures.0 c.loop-last.invariant
