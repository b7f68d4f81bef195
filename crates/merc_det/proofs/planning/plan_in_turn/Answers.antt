use Rattle.merc_det.proofs.Pushing.{in_turn_step}
use Rattle.merc_det.proofs.planning.plan_in_turn.Goals as goal

pub loop-last-preserved : goal.loop-last-preserved
loop-last-preserved c =
    in_turn_step c.args.running c.loop-last.tasks.items c.leave.new.tasks.items c.loop-last.left c.take_last.new.self c.in-Some.last c.conjunct_task.result _
    c.in-Some.ensures c.conjunct_task.ensures c.in_ok-leave.ensures c.loop-last.invariant
