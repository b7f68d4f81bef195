use Rattle.std.proofs.Common.{◌≡◌, ◌↔◌, drop}
use Rattle.merc_tree.specs.Nodes.{shapes}
use Rattle.merc_tree.proofs.term.have_same_shapes.Given as goal

abbrev pub invariant-loop-node : goal.invariant-loop-node
invariant-loop-node l = (shapes (drop l.node-index l.nodes) ≡ shapes l.others) ↔ (shapes l.nodes ≡ shapes l.fn.others)
