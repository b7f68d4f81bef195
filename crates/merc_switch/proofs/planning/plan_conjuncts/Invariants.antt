use Rattle.std.proofs.Common.{◌≡◌, ◌++◌, List, length}
use Rattle.merc_graded_tree.specs.Nodes.{Node}
use Rattle.merc_switch.specs.Plans.{in_turn}
use Rattle.merc_switch.proofs.planning.plan_conjuncts.Given as goal

abbrev pub invariant-loop-last : goal.invariant-loop-last
invariant-loop-last l = record {
  taken : List Node;
  whole : l.goals ++ taken ≡ l.fn.goals;
  planned : l.tasks ≡ in_turn l.mark taken ++ l.fn.tasks;
}

abbrev pub decreases-loop-last : goal.decreases-loop-last
decreases-loop-last l = length l.goals
