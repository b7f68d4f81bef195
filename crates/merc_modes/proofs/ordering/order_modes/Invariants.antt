use Rattle.std.proofs.Common.{◌++◌, List, length, take}
use Rattle.merc_base.specs.declared.refusal.Refusal.{Refusal}
use Rattle.merc_graded_tree.specs.Nodes.{Node as OrderedNode}
use Rattle.merc_order.specs.Procedures.{mode_faults, mode_trees, modes_of}
use Rattle.merc_modes.specs.Bodies.{AreFound}
use Rattle.merc_modes.proofs.ordering.order_modes.Given as goal

abbrev pub invariant-loop-mode : goal.invariant-loop-mode
invariant-loop-mode l = (faults : List Refusal) (trees : List OrderedNode) → AreFound faults trees l.fn.found
    → AreFound (faults ++ mode_faults (modes_of l.predicates) (length l.declared.args) (take l.mode-index l.declared.modes) l.goal)
    (trees ++ mode_trees (modes_of l.predicates) (length l.declared.args) (take l.mode-index l.declared.modes) l.goal) l.found
