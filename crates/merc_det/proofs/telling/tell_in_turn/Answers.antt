use Rattle.merc_det.proofs.Pushing.{tell_step}
use Rattle.merc_det.proofs.telling.tell_in_turn.Goals as goal

pub loop-last-preserved : goal.loop-last-preserved
loop-last-preserved c =
    tell_step c.loop-last.tasks.items c.leave.new.tasks.items c.loop-last.left c.take_last.new.self c.in-Some.last _ c.in-Some.ensures c.in_ok-leave.ensures c.loop-last.invariant
