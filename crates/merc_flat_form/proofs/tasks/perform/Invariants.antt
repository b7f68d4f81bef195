use Rattle.std.proofs.Common.{◌≡◌, ◌++◌}
use Rattle.merc_value.specs.Text.{is_blank}
use Rattle.merc_flat_form.specs.Levels.{scope_of}
use Rattle.merc_flat_form.specs.Tasks.{performed}
use Rattle.merc_flat_form.proofs.TaskLaws.{total}
use Rattle.merc_flat_form.proofs.tasks.perform.Given as goal

abbrev pub invariant-loop-task : goal.invariant-loop-task
invariant-loop-task l =
    l.goals.items ++ performed (is_blank l.names) (scope_of l.stack) l.tasks.items ≡ performed (is_blank l.names) (scope_of l.stack) l.fn.tasks.items

abbrev pub decreases-loop-task : goal.decreases-loop-task
decreases-loop-task l = total l.tasks.items
