use Rattle.std.specs.Ordering.{nat_cmp}
use Rattle.std.specs.BTreeMap.{get}
use Rattle.merc_core.proofs.StartCells.{AreOpenTo}
use Rattle.merc_core.proofs.making.open_cells.Given as goal

abbrev pub invariant-loop-item : goal.invariant-loop-item
invariant-loop-item l = AreOpenTo l.item-index l.items (λ cell. get nat_cmp l.cells cell)
