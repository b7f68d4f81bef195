-- The arguments of a cell lead to the cells before it, which have their words.
use Rattle.std.proofs.Common.{◌≡◌, ◌∙◌, ◌+◌, ◌∷◌, [], ap, sym, subst, length, map, slice_get, Some, ℕ, length-append}
use Rattle.merc_value.specs.Value.{Value, Con}
use Rattle.merc_value.specs.Block.{CellData, word_values, cell_values}
use Rattle.merc_value.specs.Sharing.{IsWordFor, AreMoved, moved}
use Rattle.merc_value.proofs.WritingLemmas.{cell_found}
use Rattle.merc_value.proofs.SharingLemmas.{next_below, next_moved_below, keeps_then, moved_more}
use Rattle.merc_value.proofs.sharing.share_cells.Goals as goal

pub moved_all-requires : goal.moved_all-requires
moved_all-requires c =
    next_below c.args.cells.now c.loop-cell.cell-index c.cell-item.result c.loop-cell.words.items c.deref.result.now c.deref-in-loop-cell.result.now
    c.requires.lower (cell_found c.args.cells.now c.loop-cell.cell-index c.cell-item.result c.loop-cell-test.true c.cell-item.is) c.loop-cell.invariant.count
    c.deref.ensures.value (c.deref-in-loop-cell.ensures.value ∙ ap (λ (at : CellData). at.arguments) c.cell.view_is)

pub share_cell-requires-clause-below : goal.share_cell-requires-clause-below
share_cell-requires-clause-below c =
    next_moved_below c.args.cells.now c.loop-cell.shared.items c.loop-cell.cell-index c.cell-item.result c.loop-cell.words.items c.deref.result.now c.deref-in-loop-cell.result.now c.in_ok-arguments.arguments.items
    c.requires.lower (cell_found c.args.cells.now c.loop-cell.cell-index c.cell-item.result c.loop-cell-test.true c.cell-item.is) c.loop-cell.invariant.count
    c.deref.ensures.value (c.deref-in-loop-cell.ensures.value ∙ ap (λ (at : CellData). at.arguments) c.cell.view_is)
    c.loop-cell.invariant.words c.in_ok-arguments.ensures

pub loop-cell-preserved : goal.loop-cell-preserved
loop-cell-preserved c =
    let found = cell_found c.args.cells.now c.loop-cell.cell-index c.cell-item.result c.loop-cell-test.true c.cell-item.is in
    let arguments : c.in_ok-arguments.arguments.items ≡ map (moved c.loop-cell.words.items) c.cell-item.result.arguments =
    c.in_ok-arguments.ensures
    ∙ ap (λ ws. map (moved ws) c.deref-in-loop-cell.result.now) c.deref.ensures.value
    ∙ ap (map (moved c.loop-cell.words.items)) (c.deref-in-loop-cell.ensures.value ∙ ap (λ (at : CellData). at.arguments) c.cell.view_is) in
    let symbol : c.cell.inside.symbol ≡ c.cell-item.result.symbol = ap (λ (at : CellData). at.symbol) c.cell.view_is in
    let value : Con c.cell.inside.symbol (word_values (cell_values c.loop-cell.shared.items) c.in_ok-arguments.arguments.items)
    ≡ Con c.cell-item.result.symbol (word_values (cell_values c.loop-cell.shared.items) (map (moved c.loop-cell.words.items) c.cell-item.result.arguments)) = cc (arguments, symbol) in
    let found' = subst (λ (n : ℕ). slice_get c.args.cells.now n ≡ Some c.cell-item.result) (sym c.loop-cell.invariant.count) found in
    let word : IsWordFor c.share_cell.new.shared.items (Con c.cell.inside.symbol (word_values (cell_values c.loop-cell.shared.items) c.in_ok-arguments.arguments.items)) c.in_ok-share_cell.field-0 = c.in_ok-share_cell.ensures.word in
    let word' = subst (λ (v : Value). IsWordFor c.share_cell.new.shared.items v c.in_ok-share_cell.field-0) value word in
    record {
      kept = keeps_then _ _ _ c.loop-cell.invariant.kept c.in_ok-share_cell.ensures.kept;
      words = subst (AreMoved c.args.cells.now c.share_cell.new.shared.items) (sym c.in_ok-push.ensures.items)
          (moved_more c.args.cells.now c.loop-cell.shared.items c.share_cell.new.shared.items c.loop-cell.words.items c.cell-item.result c.in_ok-share_cell.field-0
          c.requires.lower c.loop-cell.invariant.words c.in_ok-share_cell.ensures.kept found' word');
      count = ap length c.in_ok-push.ensures.items ∙ length-append c.loop-cell.words.items (c.in_ok-share_cell.field-0 ∷ []) ∙ ap (λ n. n + 1) c.loop-cell.invariant.count;
    }
