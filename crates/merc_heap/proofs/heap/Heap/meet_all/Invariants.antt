-- The two words stand for one value exactly where those of each pair that is met do.
use Rattle.std.proofs.Common.{◌≡◌, length, map, drop}
use Rattle.merc_value.specs.Block.{value_of}
use Rattle.merc_heap.specs.Equality.{AreSame, AreMet, SameBelow, weight, words_at}
use Rattle.merc_heap.proofs.MetLemmas.{Covered}
use Rattle.merc_heap.proofs.heap.Heap.meet_all.Given as goal

abbrev pub invariant-loop-next : goal.invariant-loop-next
invariant-loop-next l = record {
  whole : SameBelow l.self l.met.keys (length l.self) → value_of l.self l.fn.one ≡ value_of l.self l.fn.other;
  each : value_of l.self l.fn.one ≡ value_of l.self l.fn.other → AreSame l.self (map words_at l.met.keys);
  met : AreMet l.self l.met.keys;
  covered : Covered l.self l.met.keys l.next;
}

abbrev pub decreases-loop-next : goal.decreases-loop-next
decreases-loop-next l = weight l.self (map words_at (drop l.next l.met.keys))
