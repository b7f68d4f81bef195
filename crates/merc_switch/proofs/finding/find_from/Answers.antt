use Rattle.merc_switch.proofs.FoundTasks.{leads_first, leads_on, enough_now, less_left, leads_last}
use Rattle.merc_switch.proofs.finding.find_from.Goals as goal

pub loop-task-init : goal.loop-task-init
loop-task-init c = leads_first _ _ _ _ _ _ c.args.bound.now c.copy.ensures c.requires c.in_ok-push.ensures

pub perform-requires : goal.perform-requires
perform-requires c = enough_now _ _ _ _ c.in-Some.ensures c.loop-task.invariant.enough

pub loop-task-smaller : goal.loop-task-smaller
loop-task-smaller c = less_left _ _ _ _ _ _ _ _ _ c.in-Some.ensures c.in_ok-perform.ensures

pub loop-task-preserved : goal.loop-task-preserved
loop-task-preserved c = leads_on _ _ _ _ _ _ _ _ _ _ _ _ c.in-Some.ensures c.in_ok-perform.ensures c.loop-task.invariant

pub returns : goal.returns
returns c = leads_last _ _ _ _ _ _ _ c.in_default.ensures c.loop-task.invariant
