use Rattle.std.proofs.Common.{◌≡◌, ◌++◌, length}
use Rattle.merc_flat_form.specs.Tasks.{argument_tasks}
use Rattle.merc_flat_form.proofs.tasks.push_arguments.Given as goal

abbrev pub invariant-loop-last : goal.invariant-loop-last
invariant-loop-last l = l.tasks.items ++ argument_tasks l.left.items ≡ l.fn.tasks.items ++ argument_tasks l.fn.arguments.items

abbrev pub decreases-loop-last : goal.decreases-loop-last
decreases-loop-last l = length l.left.items
