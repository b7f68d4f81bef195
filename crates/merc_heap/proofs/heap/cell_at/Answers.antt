-- The fields are the last ones up to the place.
use Rattle.std.proofs.Common.{◌∙◌, ap, map}
use Rattle.merc_heap.specs.Heap.{word_of}
use Rattle.merc_heap.proofs.CellsLemmas.{arity_within, fields_ending}
use Rattle.merc_heap.proofs.heap.cell_at.Goals as goal

pub slots_ending-requires-clause-count : goal.slots_ending-requires-clause-count
slots_ending-requires-clause-count c =
    arity_within c.args.functors.now c.args.slots.now c.args.place c.functor_at-functor.result.arity c.requires.flat c.requires.within c.functor_at-functor.ensures.arity

pub returns-clause-fields : goal.returns-clause-fields
returns-clause-fields c =
    ap (map word_of) c.slots_ending.ensures
    ∙ fields_ending c.args.functors.now c.args.slots.now c.args.place c.functor_at-functor.result.arity c.requires.flat c.requires.within c.functor_at-functor.ensures.arity
