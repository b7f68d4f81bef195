use Rattle.std.proofs.Common.{◌≡◌, ◌∙◌, ◌+◌, ◌∷◌, [], ℕ, List, ap, sym, subst, reverse, inl, inr, arith, set, get_or}
use Rattle.std.specs.Prelude.{slice_get}
use Rattle.std.proofs.lemmas.List.{reverse-append}
use Rattle.merc_type_graph.specs.Cells.{entry_of, needs_of}
use Rattle.merc_type_graph.specs.Visiting.{Advance}
use Rattle.merc_type_graph.specs.declared.cell.Known.{Known}
use Rattle.merc_type_graph.specs.declared.visiting.Mark.TheVariants.{Open}
use Rattle.merc_type_graph.proofs.Entries.{known_read}
use Rattle.merc_type_graph.proofs.Visits.{advance_done, advance_cycle, advance_past, advance_new, next_small}
use Rattle.merc_type_graph.proofs.visiting.advance.Goals as goal

pub returns-in-None : goal.returns-in-None
returns-in-None c =
    advance_done c.args.store.now c.args.cells.now c.args.marks.now c.args.frame.0 c.args.frame.1 (reverse c.args.stack.now.items) c.requires.visiting
    (ap (λ (k : Known). slice_get (needs_of (entry_of c.args.store.now k)) c.args.frame.1) (sym (known_read c.args.cells.now c.args.frame.0 c.index-cells-place.result c.requires.visiting.passed.0)) ∙ sym c.in-None.ensures)

pub returns-in-Open : goal.returns-in-Open
returns-in-Open c =
    advance_cycle c.args.store.now c.args.cells.now c.args.marks.now c.args.frame.0 c.args.frame.1 c.in-Some.need (reverse c.args.stack.now.items) c.requires.sound c.requires.visiting
    (ap (λ (k : Known). slice_get (needs_of (entry_of c.args.store.now k)) c.args.frame.1) (sym (known_read c.args.cells.now c.args.frame.0 c.index-cells-place.result c.requires.visiting.passed.0)) ∙ sym c.in-Some.ensures)
    c.in-Open.is

pub overflow_add-next : goal.overflow_add-next
overflow_add-next c =
    elim (next_small c.args.store.now (get_or c.args.cells.now c.args.frame.0 c.index-cells-place.result).known c.args.frame.1 c.in-Some.need (sym c.in-Some.ensures)) [
      | inl less ↦ omega arith
      | inr zero ↦ omega arith
    ]

pub returns-in_ok-push-in-Done : goal.returns-in_ok-push-in-Done
returns-in_ok-push-in-Done c =
    let now : reverse c.push.new.self.items ≡ (c.args.frame.0, c.args.frame.1 + 1) ∷ reverse c.args.stack.now.items =
    ap reverse c.in_ok-push-in-Done.ensures.items ∙ reverse-append c.args.stack.now.items ((c.args.frame.0, c.args.frame.1 + 1) ∷ []) in
    subst (λ (l : List (ℕ × ℕ)). Advance c.args.store.now c.args.cells.now c.args.marks.now c.args.marks.now (c.args.frame ∷ reverse c.args.stack.now.items) l) (sym now)
    (advance_past c.args.store.now c.args.cells.now c.args.marks.now c.args.frame.0 c.args.frame.1 c.in-Some.need (reverse c.args.stack.now.items) c.requires.visiting
    (ap (λ (k : Known). slice_get (needs_of (entry_of c.args.store.now k)) c.args.frame.1) (sym (known_read c.args.cells.now c.args.frame.0 c.index-cells-place.result c.requires.visiting.passed.0)) ∙ sym c.in-Some.ensures)
    c.in-Done.is)

pub returns-in_ok-push-in-New-2 : goal.returns-in_ok-push-in-New-2
returns-in_ok-push-in-New-2 c =
    let first : reverse c.push-in-New.new.self.items ≡ c.args.frame ∷ reverse c.args.stack.now.items =
    ap reverse c.in_ok-push-in-New.ensures.items ∙ reverse-append c.args.stack.now.items (c.args.frame ∷ []) in
    let now : reverse c.push-in-New-2.new.self.items ≡ (c.in-Some.need, 0) ∷ c.args.frame ∷ reverse c.args.stack.now.items =
    ap reverse c.in_ok-push-in-New-2.ensures.items ∙ reverse-append c.push-in-New.new.self.items ((c.in-Some.need, 0) ∷ []) ∙ ap (λ (l : List (ℕ × ℕ)). (c.in-Some.need, 0) ∷ l) first in
    subst (λ (l : List (ℕ × ℕ)). Advance c.args.store.now c.args.cells.now c.args.marks.now (set c.args.marks.now c.in-Some.need Open) (c.args.frame ∷ reverse c.args.stack.now.items) l) (sym now)
    (advance_new c.args.store.now c.args.cells.now c.args.marks.now c.args.frame.0 c.args.frame.1 c.in-Some.need (reverse c.args.stack.now.items) c.requires.sound c.requires.visiting
    (ap (λ (k : Known). slice_get (needs_of (entry_of c.args.store.now k)) c.args.frame.1) (sym (known_read c.args.cells.now c.args.frame.0 c.index-cells-place.result c.requires.visiting.passed.0)) ∙ sym c.in-Some.ensures)
    c.in-New.is)
