use Rattle.std.proofs.Common.{◌≡◌, ◌++◌, List}
use Rattle.merc_base.specs.FirstFault.{first_of_faults}
use Rattle.merc_base.specs.declared.refusal.Refusal.{Refusal}
use Rattle.merc_grading.specs.Faults.{parallel_faults}
use Rattle.merc_det.specs.Looking.{faults_in}
use Rattle.merc_det.proofs.Faulting.{node_turns}
use Rattle.merc_det.proofs.faults.query_fault.Given as goal

abbrev pub invariant-loop-goal : goal.invariant-loop-goal
invariant-loop-goal l = record {
  done : List Refusal;
  found : l.found ≡ first_of_faults done;
  whole : done ++ faults_in l.left.items ≡ parallel_faults l.tree;
}

abbrev pub decreases-loop-goal : goal.decreases-loop-goal
decreases-loop-goal l = node_turns l.left.items
