-- The cells at the places so far are copied.
use Rattle.std.proofs.Common.{◌≡◌, [], length}
use Rattle.merc_segments.specs.Places.{AreCopies}
use Rattle.merc_segments.proofs.freezing.copied_cells.Given as goal

abbrev pub invariant-loop-place : goal.invariant-loop-place
invariant-loop-place l = record {
  copies : AreCopies l.heap l.places l.block.cells;
  count : length l.block.cells ≡ l.place-index;
  roots : l.block.roots ≡ [];
}
