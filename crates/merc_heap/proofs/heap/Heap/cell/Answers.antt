-- The constructor and the fields are those of the cell that ends there.
use Rattle.std.proofs.Common.{◌∙◌, Some, sym, ap}
use Rattle.merc_heap.proofs.CellsLemmas.{read_within, symbol_read, arguments_read}
use Rattle.merc_heap.proofs.heap.Heap.cell.Goals as goal

pub cell_at-requires-clause-within : goal.cell_at-requires-clause-within
cell_at-requires-clause-within c =
    read_within c.self.inside.functors c.self.inside.slots.items c.deref.result.now c.args.self.now c.args.place c.self.invariant c.self.view_is c.deref.ensures.value c.requires

pub returns-clause-symbol : goal.returns-clause-symbol
returns-clause-symbol c =
    symbol_read c.self.inside.functors c.self.inside.slots.items c.deref.result.now c.args.self.now c.args.place c.self.invariant c.self.view_is c.deref.ensures.value c.requires
    ∙ ap Some (sym c.cell_at.ensures.symbol)

pub returns-clause-fields : goal.returns-clause-fields
returns-clause-fields c =
    c.cell_at.ensures.fields
    ∙ sym (arguments_read c.self.inside.functors c.self.inside.slots.items c.deref.result.now c.args.self.now c.args.place c.self.invariant c.self.view_is c.deref.ensures.value c.requires)
