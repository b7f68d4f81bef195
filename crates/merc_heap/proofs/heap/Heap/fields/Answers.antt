-- The fields are the last ones up to the place.
use Rattle.std.proofs.Common.{◌∙◌, sym, subst, ap, map, length}
use Rattle.merc_heap.specs.Heap.{IsFlat, word_of}
use Rattle.merc_heap.proofs.CellsLemmas.{read_within, arguments_read, arity_within, fields_ending}
use Rattle.merc_heap.proofs.heap.Heap.fields.Goals as goal

pub slots_ending-requires-clause-within : goal.slots_ending-requires-clause-within
slots_ending-requires-clause-within c =
    read_within c.self.inside.functors c.self.inside.slots.items c.deref.result.now c.args.self.now c.args.place c.self.invariant c.self.view_is c.deref.ensures.value c.requires.place

pub slots_ending-requires-clause-count : goal.slots_ending-requires-clause-count
slots_ending-requires-clause-count c =
    arity_within c.self.inside.functors c.deref.result.now c.args.place c.args.count (subst (IsFlat c.self.inside.functors) (sym c.deref.ensures.value) c.self.invariant)
    (read_within c.self.inside.functors c.self.inside.slots.items c.deref.result.now c.args.self.now c.args.place c.self.invariant c.self.view_is c.deref.ensures.value c.requires.place)
    (c.requires.count ∙ ap length (arguments_read c.self.inside.functors c.self.inside.slots.items c.deref.result.now c.args.self.now c.args.place c.self.invariant c.self.view_is c.deref.ensures.value c.requires.place))

pub returns : goal.returns
returns c =
    let arguments = arguments_read c.self.inside.functors c.self.inside.slots.items c.deref.result.now c.args.self.now c.args.place c.self.invariant c.self.view_is c.deref.ensures.value c.requires.place in
    ap (map word_of) c.slots_ending.ensures
    ∙ fields_ending c.self.inside.functors c.deref.result.now c.args.place c.args.count (subst (IsFlat c.self.inside.functors) (sym c.deref.ensures.value) c.self.invariant)
    (read_within c.self.inside.functors c.self.inside.slots.items c.deref.result.now c.args.self.now c.args.place c.self.invariant c.self.view_is c.deref.ensures.value c.requires.place)
    (c.requires.count ∙ ap length arguments)
    ∙ sym arguments
