use Rattle.std.proofs.Common.{◌≡◌, ◌++◌, length}
use Rattle.merc_value.specs.Text.{is_blank}
use Rattle.merc_flat_form.specs.Levels.{scope_of}
use Rattle.merc_flat_form.specs.HeadTasks.{head_tasks}
use Rattle.merc_flat_form.proofs.heads.plan_head.Given as goal

abbrev pub invariant-loop-last : goal.invariant-loop-last
invariant-loop-last l =
    l.tasks.items ++ head_tasks (is_blank l.names) (scope_of l.stack) 0 l.rest.items
    ≡ l.fn.tasks.items ++ head_tasks (is_blank l.names) (scope_of l.stack) 0 l.fn.arguments.items

abbrev pub decreases-loop-last : goal.decreases-loop-last
decreases-loop-last l = length l.rest.items
