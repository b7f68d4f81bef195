-- The number of the fields is the one of the arguments of the constructor whose number the last field has.
use Rattle.std.proofs.Common.{◌∙◌, sym, subst, ap, length}
use Rattle.merc_value.specs.Block.{AreLower, IsBelow}
use Rattle.merc_value.specs.declared.word.Word.{Word}
use Rattle.merc_heap.specs.Heap.{arguments_in}
use Rattle.merc_heap.proofs.CellsLemmas.{read_within, arguments_read}
use Rattle.merc_heap.proofs.heap.Heap.arity.Goals as goal

pub functor_at-requires-clause-within : goal.functor_at-requires-clause-within
functor_at-requires-clause-within c =
    read_within c.self.inside.functors c.self.inside.slots.items c.deref.result.now c.args.self.now c.in-Cell.place c.self.invariant c.self.view_is c.deref.ensures.value
    (subst (IsBelow (length c.args.self.now)) c.in-Cell.is c.requires)

pub returns-in-Cell-clause-arity : goal.returns-in-Cell-clause-arity
returns-in-Cell-clause-arity c =
    c.functor_at.ensures.arity
    ∙ ap length (sym (arguments_read c.self.inside.functors c.self.inside.slots.items c.deref.result.now c.args.self.now c.in-Cell.place c.self.invariant c.self.view_is c.deref.ensures.value
    (subst (IsBelow (length c.args.self.now)) c.in-Cell.is c.requires)))
    ∙ ap (λ (w : Word). length (arguments_in c.args.self.now w)) (sym c.in-Cell.is)

pub returns-in-Cell-clause-lower : goal.returns-in-Cell-clause-lower
returns-in-Cell-clause-lower c = subst AreLower c.self.view_is c.self.invariant.lower

pub returns-in_default-clause-lower : goal.returns-in_default-clause-lower
returns-in_default-clause-lower c = subst AreLower c.self.view_is c.self.invariant.lower
