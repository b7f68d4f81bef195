use Rattle.merc_det.proofs.Pushing.{choices_step}
use Rattle.merc_det.proofs.planning.plan_choices.Goals as goal

pub loop-last-preserved : goal.loop-last-preserved
loop-last-preserved c =
    choices_step c.args.known c.loop-last.tasks.items c.plan_apart.new.tasks.items c.loop-last.left c.take_last.new.self c.in-Some.last _ c.in-Some.ensures c.in_ok-plan_apart.ensures c.loop-last.invariant
