use Rattle.std.proofs.Common.{◌≡◌, drop}
use Rattle.merc_graded_tree.specs.Nodes.{outputs_of}
use Rattle.merc_switch.specs.Occurring.{outputs_behind}
use Rattle.merc_switch.proofs.occurring.add_each.Given as goal

abbrev pub invariant-loop-variable : goal.invariant-loop-variable
invariant-loop-variable l = outputs_behind (outputs_of l.whole) l.found (drop l.variable-index l.variables) ≡ outputs_behind (outputs_of l.whole) l.fn.found l.variables
