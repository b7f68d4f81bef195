use Rattle.merc_det.proofs.Pushing.{arm_step, arms_end}
use Rattle.merc_det.proofs.planning.plan_arms.Goals as goal

pub loop-last-preserved : goal.loop-last-preserved
loop-last-preserved c =
    arm_step c.args.known c.args.variable c.args.symbols.now c.loop-last.tasks.items c.plan_arm.new.tasks.items c.loop-last.left c.take_last.new.self c.in-Some.last c.len.result _
    c.in-Some.ensures c.len.ensures c.in_ok-plan_arm.ensures c.loop-last.invariant

pub returns : goal.returns
returns c = arms_end c.args.known c.args.variable c.args.symbols.now c.loop-last.tasks.items c.loop-last.left _ c.in_default.ensures.0 c.loop-last.invariant
