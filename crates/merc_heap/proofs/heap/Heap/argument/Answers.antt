-- The field of a number is the one of the cell that ends there.
use Rattle.std.proofs.Common.{◌∙◌, List, sym, subst, ap, length, slice_get}
use Rattle.merc_value.specs.Block.{IsBelow}
use Rattle.merc_value.specs.declared.word.Word.{Word}
use Rattle.merc_heap.specs.Heap.{arguments_in}
use Rattle.merc_heap.proofs.CellsLemmas.{read_within, arguments_read}
use Rattle.merc_heap.proofs.heap.Heap.argument.Goals as goal

pub field_at-requires-clause-within : goal.field_at-requires-clause-within
field_at-requires-clause-within c =
    read_within c.self.inside.functors c.self.inside.slots.items c.deref.result.now c.args.self.now c.in-Cell.place c.self.invariant c.self.view_is c.deref.ensures.value
    (subst (IsBelow (length c.args.self.now)) c.in-Cell.is c.requires)

pub returns-in-Cell : goal.returns-in-Cell
returns-in-Cell c =
    c.field_at.ensures
    ∙ ap (λ (ws : List Word). slice_get ws c.args.index)
    (sym (arguments_read c.self.inside.functors c.self.inside.slots.items c.deref.result.now c.args.self.now c.in-Cell.place c.self.invariant c.self.view_is c.deref.ensures.value
    (subst (IsBelow (length c.args.self.now)) c.in-Cell.is c.requires)))
    ∙ ap (λ (w : Word). slice_get (arguments_in c.args.self.now w) c.args.index) (sym c.in-Cell.is)
