use Rattle.std.proofs.Common.{◌≡◌, ◌++◌, length}
use Rattle.merc_graded_tree.specs.Nodes.{nodes_of}
use Rattle.merc_det.specs.Tasks.{tell_tasks}
use Rattle.merc_det.proofs.telling.tell_in_turn.Given as goal

abbrev pub invariant-loop-last : goal.invariant-loop-last
invariant-loop-last l = l.tasks.items ++ tell_tasks (nodes_of l.left) ≡ l.fn.tasks.items ++ tell_tasks (nodes_of l.fn.goals)

abbrev pub decreases-loop-last : goal.decreases-loop-last
decreases-loop-last l = length l.left
