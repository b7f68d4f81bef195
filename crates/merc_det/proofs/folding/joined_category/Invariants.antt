use Rattle.std.proofs.Common.{◌≡◌, ◌≤◌, ◌-◌, drop, length}
use Rattle.merc_grading.specs.Grading.{categories}
use Rattle.merc_det.specs.Folding.{joined_category}
use Rattle.merc_det.proofs.folding.joined_category.Given as goal

abbrev pub invariant-loop-index : goal.invariant-loop-index
invariant-loop-index l = record {
  above : l.start ≤ l.index;
  within : l.index ≤ length l.graded;
  same : l.category ≡ joined_category l.joint (categories (drop l.index l.graded));
}

abbrev pub decreases-loop-index : goal.decreases-loop-index
decreases-loop-index l = l.index - l.start
