use Rattle.std.proofs.Common.{◌≡◌, ◌≤◌, [], map, take}
use Rattle.merc_tree.specs.Nodes.{built}
use Rattle.merc_tree.specs.Parts.{part_of, deepest_part}
use Rattle.merc_tree.proofs.term.nesting.nesting_of.Given as goal

abbrev pub invariant-loop-node : goal.invariant-loop-node
invariant-loop-node l = record {
  parts_are : l.parts.items ≡ map part_of (built (take l.node-index l.nodes) []);
  shallow : deepest_part l.parts.items ≤ l.node-index;
}
