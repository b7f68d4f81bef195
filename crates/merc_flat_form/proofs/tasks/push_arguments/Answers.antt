use Rattle.merc_flat_form.proofs.TaskLaws.{push_step}
use Rattle.merc_flat_form.proofs.tasks.push_arguments.Goals as goal

pub loop-last-preserved : goal.loop-last-preserved
loop-last-preserved c =
    push_step c.loop-last.tasks.items _ c.loop-last.left.items c.pop.new.self.items c.in-Some.last _ c.in-Some.ensures.items c.in_ok-push_argument.ensures c.loop-last.invariant
