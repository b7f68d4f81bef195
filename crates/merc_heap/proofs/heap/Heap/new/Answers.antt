-- Nothing lies in a new heap.
use Rattle.std.proofs.Common.{sym, subst, ap}
use Rattle.merc_heap.specs.Heap.{cells_of, IsFlat}
use Rattle.merc_heap.proofs.CellsLemmas.{flat_nothing}
use Rattle.merc_heap.proofs.heap.Heap.new.Goals as goal

pub invariant_of-result : goal.invariant_of-result
invariant_of-result c = subst (IsFlat c.new-2.result) (sym c.new.ensures.items) (flat_nothing c.new-2.result)

pub returns : goal.returns
unfolding cells_of
returns c = ap (cells_of c.new-2.result) c.new.ensures.items
