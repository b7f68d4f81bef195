-- What is left to be spoiled.
use Rattle.std.proofs.Common.{◌≡◌, length}
use Rattle.std.specs.Ordering.{nat_cmp}
use Rattle.std.specs.BTreeMap.{get}
use Rattle.merc_core.specs.Queues.{cells_after, list_after}
use Rattle.merc_core.specs.Roomy.{IsRoomy}
use Rattle.merc_core.proofs.ending.poison.Given as goal

abbrev pub invariant-loop-cell : goal.invariant-loop-cell
invariant-loop-cell l = record {
  cells : cells_after l.signals (λ cell. get nat_cmp l.cells cell) ≡ cells_after l.fn.signals (λ cell. get nat_cmp l.fn.cells cell);
  list : list_after l.signals (λ cell. get nat_cmp l.cells cell) l.list ≡ list_after l.fn.signals (λ cell. get nat_cmp l.fn.cells cell) l.fn.list;
  roomy : IsRoomy (λ cell. get nat_cmp l.cells cell) l.list;
}

abbrev pub decreases-loop-cell : goal.decreases-loop-cell
decreases-loop-cell l = length l.signals
