use Rattle.std.proofs.Common.{◌≡◌, ◌++◌, length}
use Rattle.merc_graded_tree.specs.Nodes.{nodes_of}
use Rattle.merc_det.specs.Tasks.{choice_tasks}
use Rattle.merc_det.proofs.planning.plan_choices.Given as goal

abbrev pub invariant-loop-last : goal.invariant-loop-last
invariant-loop-last l = l.tasks.items ++ choice_tasks l.known (nodes_of l.left) ≡ l.fn.tasks.items ++ choice_tasks l.known (nodes_of l.fn.goals)

abbrev pub decreases-loop-last : goal.decreases-loop-last
decreases-loop-last l = length l.left
