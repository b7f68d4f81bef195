use Rattle.std.proofs.Common.{◌≡◌, ◌++◌, length}
use Rattle.merc_graded_tree.specs.Roots.{arms_of}
use Rattle.merc_det.specs.Tasks.{arm_tasks}
use Rattle.merc_det.proofs.planning.plan_arms.Given as goal

abbrev pub invariant-loop-last : goal.invariant-loop-last
invariant-loop-last l =
    l.tasks.items ++ arm_tasks l.known l.variable (arms_of l.symbols l.left) ≡ l.fn.tasks.items ++ arm_tasks l.known l.variable (arms_of l.symbols l.fn.arms)

abbrev pub decreases-loop-last : goal.decreases-loop-last
decreases-loop-last l = length l.left
