-- The fields so far are the same.
use Rattle.std.proofs.Common.{◌+◌, ◌*◌, ◌≤◌, take, map}
use Rattle.merc_heap.specs.Heap.{word_of}
use Rattle.merc_heap.specs.Equality.{AreSame, pairs}
use Rattle.merc_heap.proofs.comparison.+comparing.Given as goal

abbrev pub invariant-compare_fields-loop-index : goal.invariant-compare_fields-loop-index
invariant-compare_fields-loop-index l = record {
  same : AreSame l.heap (pairs (take l.index (map word_of l.fields)) (take l.index (map word_of l.others)));
  left : l.left ≤ l.fn.bound;
}

abbrev pub decreases-compare_words : goal.decreases-compare_words
decreases-compare_words l = 2 * l.bound

abbrev pub decreases-compare_fields : goal.decreases-compare_fields
decreases-compare_fields l = 2 * l.bound + 1
