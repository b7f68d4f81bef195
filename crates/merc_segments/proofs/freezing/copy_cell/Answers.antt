-- The cell has a constructor, and its fields lead to cells that are copied.
use Rattle.std.proofs.Common.{◌≡◌, ◌∙◌, Some, List, ap, sym, subst, length, map}
use Rattle.std.specs.List.{All}
use Rattle.merc_value.specs.Block.{BlockData, IsBelow, value_of, with_cell}
use Rattle.merc_value.specs.Writing.{arguments_at}
use Rattle.merc_value.specs.declared.word.Word.{Word}
use Rattle.merc_value.specs.declared.word.Word.TheVariants.{Cell as CellWord}
use Rattle.merc_heap.specs.Heap.{symbol_of}
use Rattle.merc_segments.specs.Places.{copy_of, AreCopies}
use Rattle.merc_segments.proofs.PlaceLemmas.{has_found}
use Rattle.merc_segments.proofs.FreezeLemmas.{cell_symbol, fields_below, copies_next}
use Rattle.merc_segments.proofs.freezing.copy_cell.Goals as goal

pub copied_fields-requires-clause-within : goal.copied_fields-requires-clause-within
copied_fields-requires-clause-within c = c.requires.closed.within c.args.place (has_found c.args.places.now (length c.args.block.now.cells) c.args.place c.requires.next)

pub symbol-requires : goal.symbol-requires
symbol-requires c = c.requires.closed.within c.args.place (has_found c.args.places.now (length c.args.block.now.cells) c.args.place c.requires.next)

pub unreachable-requires : goal.unreachable-requires
unreachable-requires c =
    let is = cell_symbol c.args.heap.now c.in_ok-arguments.ensures.lower c.args.place
    (c.requires.closed.within c.args.place (has_found c.args.places.now (length c.args.block.now.cells) c.args.place c.requires.next)) in
    c.in_default.not-Some is.0 (c.symbol.ensures ∙ is.1)

pub cell-requires : goal.cell-requires
cell-requires c =
    subst (All (IsBelow (length c.args.block.now.cells))) (sym (c.deref.ensures.value ∙ c.in_ok-arguments.ensures.fields))
    (fields_below c.args.heap.now c.in_ok-arguments.ensures.lower c.args.places.now c.requires.closed c.args.block.now.cells c.args.place c.requires.next c.requires.copies)

pub returns-clause-copies : goal.returns-clause-copies
returns-clause-copies c =
    let arguments : c.deref.result.now ≡ map (copy_of c.args.places.now) (arguments_at c.args.heap.now c.args.place) = c.deref.ensures.value ∙ c.in_ok-arguments.ensures.fields in
    let is : symbol_of (value_of c.args.heap.now (CellWord c.args.place)) ≡ Some c.in-Some.symbol = sym c.symbol.ensures ∙ c.in-Some.is in
    let cells : c.cell.new.self.cells ≡ (with_cell c.args.block.now c.in-Some.symbol (map (copy_of c.args.places.now) (arguments_at c.args.heap.now c.args.place))).cells =
    ap (λ (b : BlockData). b.cells) c.in_ok-cell.ensures.ok ∙ ap (λ (ws : List Word). (with_cell c.args.block.now c.in-Some.symbol ws).cells) arguments in
    subst (AreCopies c.args.heap.now c.args.places.now) (sym cells)
    (copies_next c.args.heap.now c.in_ok-arguments.ensures.lower c.args.places.now c.requires.closed c.args.block.now.cells c.args.place c.requires.next c.requires.copies c.in-Some.symbol is)
