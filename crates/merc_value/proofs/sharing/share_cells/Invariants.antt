-- The cells so far have their words.
use Rattle.std.proofs.Common.{◌≡◌, length}
use Rattle.merc_value.specs.Sharing.{KeepsShared, AreMoved}
use Rattle.merc_value.proofs.sharing.share_cells.Given as goal

abbrev pub invariant-loop-cell : goal.invariant-loop-cell
invariant-loop-cell l = record {
  kept : KeepsShared l.fn.shared.items l.shared.items;
  words : AreMoved l.cells l.shared.items l.words.items;
  count : length l.words.items ≡ l.cell-index;
}
