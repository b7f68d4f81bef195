-- Cells have one constructor and as many fields where those that end there do.
use Rattle.std.proofs.Common.{◌∙◌, Some, sym, ap, length}
use Rattle.merc_heap.proofs.CellsLemmas.{read_within, symbol_read, arguments_read}
use Rattle.merc_heap.proofs.heap.Heap.are_numbered_alike.Goals as goal

pub have_one_number-requires-clause-one : goal.have_one_number-requires-clause-one
have_one_number-requires-clause-one c =
    read_within c.self.inside.functors c.self.inside.slots.items c.deref.result.now c.args.self.now c.args.place c.self.invariant c.self.view_is c.deref.ensures.value c.requires.one

pub have_one_number-requires-clause-other : goal.have_one_number-requires-clause-other
have_one_number-requires-clause-other c =
    read_within c.self.inside.functors c.self.inside.slots.items c.deref.result.now c.args.self.now c.args.other c.self.invariant c.self.view_is c.deref.ensures.value c.requires.other

pub returns-clause-symbol : goal.returns-clause-symbol
returns-clause-symbol c held =
    symbol_read c.self.inside.functors c.self.inside.slots.items c.deref.result.now c.args.self.now c.args.place c.self.invariant c.self.view_is c.deref.ensures.value c.requires.one
    ∙ ap Some (c.have_one_number.ensures.symbol held)
    ∙ sym (symbol_read c.self.inside.functors c.self.inside.slots.items c.deref.result.now c.args.self.now c.args.other c.self.invariant c.self.view_is c.deref.ensures.value c.requires.other)

pub returns-clause-count : goal.returns-clause-count
returns-clause-count c held =
    ap length (arguments_read c.self.inside.functors c.self.inside.slots.items c.deref.result.now c.args.self.now c.args.place c.self.invariant c.self.view_is c.deref.ensures.value c.requires.one)
    ∙ c.have_one_number.ensures.count held
    ∙ ap length (sym (arguments_read c.self.inside.functors c.self.inside.slots.items c.deref.result.now c.args.self.now c.args.other c.self.invariant c.self.view_is c.deref.ensures.value c.requires.other))
