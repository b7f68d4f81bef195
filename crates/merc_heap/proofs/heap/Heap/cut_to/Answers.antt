-- The cells below the mark stay.
use Rattle.std.proofs.Common.{◌∙◌, ℕ, sym, subst, ap, take, drop}
use Rattle.std.proofs.lemmas.List.{take-append-drop, length-take-le}
use Rattle.merc_heap.specs.Heap.{cells_of, IsFlat, Keeps}
use Rattle.merc_heap.proofs.CellsLemmas.{flat_taken, cells_of-take, keeps_taken}
use Rattle.merc_heap.proofs.heap.Heap.cut_to.Goals as goal

pub invariant_of-self : goal.invariant_of-self
invariant_of-self c = subst (IsFlat c.self.inside.functors) (sym c.truncate.ensures.items) (flat_taken c.self.inside.functors c.mark.inside.0 c.self.inside.slots.items c.self.invariant)

pub returns-clause-cut : goal.returns-clause-cut
returns-clause-cut c = ap (cells_of c.self.inside.functors) c.truncate.ensures.items ∙ cells_of-take c.self.inside.functors c.mark.inside.0 c.self.inside.slots.items ∙ ap (take c.mark.inside.0) c.self.view_is ∙ ap (λ (n : ℕ). take n c.args.self.now) c.mark.view_is

pub returns-clause-kept : goal.returns-clause-kept
returns-clause-kept c =
    subst (Keeps c.args.mark c.args.self.now) (sym (ap (cells_of c.self.inside.functors) c.truncate.ensures.items ∙ cells_of-take c.self.inside.functors c.mark.inside.0 c.self.inside.slots.items ∙ ap (take c.mark.inside.0) c.self.view_is ∙ ap (λ (n : ℕ). take n c.args.self.now) c.mark.view_is))
    (keeps_taken c.args.mark (take c.args.mark c.args.self.now) (drop c.args.mark c.args.self.now) c.args.self.now
    (length-take-le c.args.mark c.args.self.now c.requires) (take-append-drop c.args.mark c.args.self.now))
