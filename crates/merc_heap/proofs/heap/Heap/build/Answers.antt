-- The new cell goes behind the others, also where its constructor is new.
use Rattle.std.proofs.Common.{sym, subst, ap, ◌∙◌}
use Rattle.merc_heap.specs.Heap.{cells_of, IsFlat}
use Rattle.merc_heap.proofs.CellsLemmas.{flat_put, word_put, kept_put, front_put, cells_more_functors, flat_more_functors, on_err}
use Rattle.merc_heap.proofs.heap.Heap.build.Goals as goal

pub invariant_of-self : goal.invariant_of-self
invariant_of-self c = flat_more_functors c.self.inside.functors c.number.new.self c.self.inside.slots.items c.number.ensures.others c.self.invariant

pub returns-in_err-number-clause-err : goal.returns-in_err-number-clause-err
returns-in_err-number-clause-err c =
    on_err c.from_residual.result (cells_more_functors c.self.inside.functors c.number.new.self c.self.inside.slots.items c.number.ensures.others c.self.invariant ∙ c.self.view_is)

pub invariant_of-self-in_err-place : goal.invariant_of-self-in_err-place
invariant_of-self-in_err-place c =
    subst (IsFlat c.number.new.self) (sym c.in_err-place.ensures.err) (flat_more_functors c.self.inside.functors c.number.new.self c.self.inside.slots.items c.number.ensures.others c.self.invariant)

pub returns-in_err-place-clause-err : goal.returns-in_err-place-clause-err
returns-in_err-place-clause-err c =
    on_err c.from_residual-in_err-place.result
    (ap (cells_of c.number.new.self) c.in_err-place.ensures.err ∙ cells_more_functors c.self.inside.functors c.number.new.self c.self.inside.slots.items c.number.ensures.others c.self.invariant ∙ c.self.view_is)

pub invariant_of-self-2 : goal.invariant_of-self-2
invariant_of-self-2 c =
    flat_put c.self.inside.functors c.number.new.self c.self.inside.slots.items c.push_cell.new.slots.items c.args.self.now c.args.symbol c.in_ok-number.number c.args.arguments.now c.in-Some.front.now c.in-Some.last.now
    c.self.invariant c.self.view_is c.number.ensures.others c.in_ok-number.ensures.number c.in-Some.ensures.cases.0 c.in_ok-place.ensures.ok c.requires

pub returns-clause-word : goal.returns-clause-word
returns-clause-word c =
    word_put c.self.inside.functors c.number.new.self c.self.inside.slots.items c.push_cell.new.slots.items c.args.self.now c.args.symbol c.in_ok-number.number c.args.arguments.now c.in-Some.front.now c.in-Some.last.now
    c.self.invariant c.self.view_is c.number.ensures.others c.in_ok-number.ensures.number c.in-Some.ensures.cases.0 c.in_ok-place.ensures.ok c.requires
    c.in_ok-place.place c.in_ok-place.ensures.place

pub returns-clause-kept : goal.returns-clause-kept
returns-clause-kept c =
    kept_put c.self.inside.functors c.number.new.self c.self.inside.slots.items c.push_cell.new.slots.items c.args.self.now c.args.symbol c.in_ok-number.number c.args.arguments.now c.in-Some.front.now c.in-Some.last.now
    c.self.invariant c.self.view_is c.number.ensures.others c.in_ok-number.ensures.number c.in-Some.ensures.cases.0 c.in_ok-place.ensures.ok c.requires

pub returns-clause-front : goal.returns-clause-front
returns-clause-front c =
    front_put c.self.inside.functors c.number.new.self c.self.inside.slots.items c.push_cell.new.slots.items c.args.self.now c.args.symbol c.in_ok-number.number c.args.arguments.now c.in-Some.front.now c.in-Some.last.now
    c.self.invariant c.self.view_is c.number.ensures.others c.in_ok-number.ensures.number c.in-Some.ensures.cases.0 c.in_ok-place.ensures.ok c.requires
