use Rattle.std.proofs.Common.{◌≡◌, ◌+◌, ℕ, drop}
use Rattle.merc_graded_tree.specs.Nodes.{outputs_of}
use Rattle.merc_switch_choice.specs.Counting.{count_of, counting}
use Rattle.merc_switch.specs.Selections.{has_output}
use Rattle.merc_switch.proofs.counting.counts_of.Given as goal

abbrev pub invariant-loop-disjunct : goal.invariant-loop-disjunct
invariant-loop-disjunct l =
    (variable : ℕ) → count_of l.counts variable + counting (has_output (outputs_of l.whole) variable) (drop l.disjunct-index l.disjuncts) ≡ counting (has_output (outputs_of l.whole) variable) l.disjuncts
