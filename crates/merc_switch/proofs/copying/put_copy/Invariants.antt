use Rattle.std.proofs.Common.{◌≡◌, ◌++◌, ◌∷◌, [], drop, length}
use Rattle.merc_graded_tree.specs.Labels.{labels_of, built}
use Rattle.merc_switch.proofs.Copies.{AreFound}
use Rattle.merc_switch.proofs.copying.put_copy.Given as goal

abbrev pub invariant-loop-index : goal.invariant-loop-index
invariant-loop-index l = record {
  found : AreFound (drop l.index (labels_of l.goal)) (length l.found);
  same : built (drop l.index (labels_of l.goal)) l.found ≡ l.fn.found ++ l.goal ∷ [];
}
