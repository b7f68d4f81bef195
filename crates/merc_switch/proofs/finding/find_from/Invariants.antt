use Rattle.merc_order.specs.Bound.{among}
use Rattle.merc_switch.specs.Tasks.{total}
use Rattle.merc_switch.proofs.FoundTasks.{Leads}
use Rattle.merc_switch.proofs.finding.find_from.Given as goal

abbrev pub invariant-loop-task : goal.invariant-loop-task
invariant-loop-task l = Leads l.known.types (among l.fn.bound) l.goal l.fn.found l.tasks l.found l.bound

abbrev pub decreases-loop-task : goal.decreases-loop-task
decreases-loop-task l = total l.tasks
