-- The constructor of a cell is the one whose number its last field has.
use Rattle.std.proofs.Common.{◌∙◌, Some, sym, subst, ap, length}
use Rattle.merc_value.specs.Block.{IsBelow, value_of}
use Rattle.merc_value.specs.declared.word.Word.{Word}
use Rattle.merc_heap.specs.Heap.{symbol_of}
use Rattle.merc_heap.proofs.CellsLemmas.{read_within, symbol_read}
use Rattle.merc_heap.proofs.heap.Heap.symbol.Goals as goal

pub functor_at-requires-clause-within : goal.functor_at-requires-clause-within
functor_at-requires-clause-within c =
    read_within c.self.inside.functors c.self.inside.slots.items c.deref.result.now c.args.self.now c.in-Cell.place c.self.invariant c.self.view_is c.deref.ensures.value
    (subst (IsBelow (length c.args.self.now)) c.in-Cell.is c.requires)

pub returns-in-Cell : goal.returns-in-Cell
returns-in-Cell c =
    ap Some c.functor_at.ensures.symbol
    ∙ sym (symbol_read c.self.inside.functors c.self.inside.slots.items c.deref.result.now c.args.self.now c.in-Cell.place c.self.invariant c.self.view_is c.deref.ensures.value
    (subst (IsBelow (length c.args.self.now)) c.in-Cell.is c.requires))
    ∙ ap (λ (w : Word). symbol_of (value_of c.args.self.now w)) (sym c.in-Cell.is)
