use Rattle.std.proofs.Common.{◌≡◌, ◌-◌, ℕ, drop}
use Rattle.merc_graded_tree.specs.Nodes.{outputs_of}
use Rattle.merc_switch_choice.specs.Counting.{count_of, all_counting}
use Rattle.merc_switch.specs.Selections.{has_output}
use Rattle.merc_switch.proofs.handing.remove_groups.Given as goal

abbrev pub invariant-loop-group : goal.invariant-loop-group
invariant-loop-group l =
    (variable : ℕ) → count_of l.counts variable - all_counting (has_output (outputs_of l.whole) variable) (drop l.group-index l.groups)
    ≡ count_of l.fn.counts variable - all_counting (has_output (outputs_of l.whole) variable) l.groups
