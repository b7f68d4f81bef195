use Rattle.std.proofs.Common.{◌≡◌, ◌++◌, ◌+◌, ◌<◌, ℕ, List, length}
use Rattle.std.specs.List.Sorted.{IsNonDecreasingBy}
use Rattle.merc_graded_tree.specs.Labels.{all_labels}
use Rattle.merc_graded_tree.specs.Nodes.{Node}
use Rattle.merc_rights.specs.Groups.{numbered}
use Rattle.merc_rights.specs.Rows.{row_of}
use Rattle.merc_par_split.specs.Tasks.{member_tasks, shares_of}
use Rattle.merc_par_split.proofs.members.leave_members.Given as goal

abbrev pub invariant-loop-goal : goal.invariant-loop-goal
invariant-loop-goal l = record {
  rest : List Node;
  are : l.fn.members.goals.items ≡ l.goals.items ++ rest;
  left : l.tasks ≡ member_tasks (l.fn.members.first + length (all_labels l.goals.items)) (shares_of (length l.goals.items) rest l.fn.shares.waits (numbered l.fn.shares.signals.items) l.fn.shares.passed) ++ l.fn.tasks;
  waits : l.shares.waits ≡ l.fn.shares.waits;
  passed : l.shares.passed ≡ l.fn.shares.passed;
  in_order : IsNonDecreasingBy (λ item. item.number) l.shares.signals.items;
  same : (number : ℕ) → number < length l.goals.items → row_of number (numbered l.shares.signals.items) ≡ row_of number (numbered l.fn.shares.signals.items);
}

abbrev pub decreases-loop-goal : goal.decreases-loop-goal
decreases-loop-goal l = length l.goals.items
