use Rattle.std.proofs.Common.{◌≡◌, length}
use Rattle.merc_graded_tree.specs.Labels.{all_labels}
use Rattle.merc_grading.specs.Switches.{beginning}
use Rattle.merc_switch_choice.specs.Beginnings.{splits_with}
use Rattle.merc_switch_choice.proofs.beginnings.put_splits.Given as goal

abbrev pub invariant-loop-next : goal.invariant-loop-next
invariant-loop-next l = splits_with l.splits.items l.rest.items ≡ (beginning l.goal).splits

abbrev pub decreases-loop-next : goal.decreases-loop-next
decreases-loop-next l = length (all_labels l.rest.items)
