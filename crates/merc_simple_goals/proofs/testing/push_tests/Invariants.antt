use Rattle.std.proofs.Common.{◌≡◌, ◌++◌, drop}
use Rattle.merc_graded_tree.specs.Nodes.{list_of}
use Rattle.merc_order.specs.Spelt.{tests_of}
use Rattle.merc_simple_goals.proofs.testing.push_tests.Given as goal

abbrev pub invariant-loop-variable : goal.invariant-loop-variable
invariant-loop-variable l = l.nodes ++ list_of (tests_of l.next (drop l.variable-index l.tested) l.span) ≡ l.fn.nodes ++ list_of (tests_of l.at l.tested l.span)
