use Rattle.std.proofs.Common.{◌≡◌, ◌++◌, reverse}
use Rattle.merc_graded_tree.specs.Nodes.{nodes_of}
use Rattle.merc_course.specs.Variables.{node_variables, all_variables}
use Rattle.merc_gen.specs.Turns.{list_turns}
use Rattle.merc_gen.proofs.variables.put_variables.Given as goal

abbrev pub invariant-loop-next : goal.invariant-loop-next
invariant-loop-next l = l.variables ++ all_variables (nodes_of (reverse l.left.items)) ≡ node_variables l.goal

abbrev pub decreases-loop-next : goal.decreases-loop-next
decreases-loop-next l = list_turns l.left.items
