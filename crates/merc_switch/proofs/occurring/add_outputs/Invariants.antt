use Rattle.std.proofs.Common.{◌≡◌, ◌||◌, ◌&&◌, ℕ, drop}
use Rattle.merc_graded_tree.specs.Labels.{labels_of}
use Rattle.merc_graded_tree.specs.Nodes.{outputs_of}
use Rattle.merc_order.specs.Bound.{among}
use Rattle.merc_switch.specs.Selections.{has_output}
use Rattle.merc_switch.proofs.Occurrences.{in_labels}
use Rattle.merc_switch.proofs.occurring.add_outputs.Given as goal

abbrev pub invariant-loop-index : goal.invariant-loop-index
invariant-loop-index l =
    (variable : ℕ) → (among l.found variable || (among (outputs_of l.whole) variable && in_labels (drop l.index (labels_of l.goal)) variable)) ≡ (among l.fn.found variable || has_output (outputs_of l.whole) variable l.goal)
