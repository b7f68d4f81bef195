-- The cells so far have their words, behind the cells that were there.
use Rattle.std.proofs.Common.{◌≡◌, length, take}
use Rattle.merc_value.specs.Sharing.{AreMoved}
use Rattle.merc_heap.specs.Heap.{Keeps}
use Rattle.merc_segments.proofs.thawing.thaw_cells.Given as goal

abbrev pub invariant-loop-cell : goal.invariant-loop-cell
invariant-loop-cell l = record {
  words : AreMoved l.cells l.heap l.words.items;
  count : length l.words.items ≡ l.cell-index;
  kept : Keeps (length l.fn.heap) l.fn.heap l.heap;
  front : take (length l.fn.heap) l.heap ≡ l.fn.heap;
}
