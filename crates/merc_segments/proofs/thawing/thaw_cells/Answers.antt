-- The arguments of a cell lead to the cells before it, which have their words.
use Rattle.std.proofs.Common.{◌≡◌, ◌∙◌, ◌+◌, ◌∷◌, [], ap, sym, subst, length, map, slice_get, Some, ℕ, length-append}
use Rattle.merc_value.specs.Value.{Value, Con}
use Rattle.std.specs.List.{All}
use Rattle.merc_value.specs.Block.{CellData, IsBelow, word_values, cell_values}
use Rattle.merc_value.specs.Sharing.{IsWordFor, AreMoved, moved}
use Rattle.merc_value.proofs.WritingLemmas.{cell_found}
use Rattle.merc_value.proofs.SharingLemmas.{next_below, next_moved_below}
use Rattle.merc_segments.proofs.ThawLemmas.{keeps_more, front_more, moved_next}
use Rattle.merc_segments.proofs.thawing.thaw_cells.Goals as goal

pub moved_all-requires : goal.moved_all-requires
moved_all-requires c =
    next_below c.args.cells.now c.loop-cell.cell-index c.cell-item.result c.loop-cell.words.items c.deref.result.now c.deref-in-loop-cell.result.now
    c.requires.lower (cell_found c.args.cells.now c.loop-cell.cell-index c.cell-item.result c.loop-cell-test.true c.cell-item.is) c.loop-cell.invariant.count
    c.deref.ensures.value (c.deref-in-loop-cell.ensures.value ∙ ap (λ (at : CellData). at.arguments) c.cell.view_is)

pub build-requires : goal.build-requires
build-requires c =
    subst (All (IsBelow (length c.loop-cell.heap))) (sym c.deref-in-loop-cell-2.ensures.value)
    (next_moved_below c.args.cells.now c.loop-cell.heap c.loop-cell.cell-index c.cell-item.result c.loop-cell.words.items c.deref.result.now c.deref-in-loop-cell.result.now c.in_ok-arguments.arguments.items
    c.requires.lower (cell_found c.args.cells.now c.loop-cell.cell-index c.cell-item.result c.loop-cell-test.true c.cell-item.is) c.loop-cell.invariant.count
    c.deref.ensures.value (c.deref-in-loop-cell.ensures.value ∙ ap (λ (at : CellData). at.arguments) c.cell.view_is)
    c.loop-cell.invariant.words c.in_ok-arguments.ensures)

pub loop-cell-preserved : goal.loop-cell-preserved
loop-cell-preserved c =
    let found = cell_found c.args.cells.now c.loop-cell.cell-index c.cell-item.result c.loop-cell-test.true c.cell-item.is in
    let arguments : c.deref-in-loop-cell-2.result.now ≡ map (moved c.loop-cell.words.items) c.cell-item.result.arguments =
    c.deref-in-loop-cell-2.ensures.value ∙ c.in_ok-arguments.ensures
    ∙ ap (λ ws. map (moved ws) c.deref-in-loop-cell.result.now) c.deref.ensures.value
    ∙ ap (map (moved c.loop-cell.words.items)) (c.deref-in-loop-cell.ensures.value ∙ ap (λ (at : CellData). at.arguments) c.cell.view_is) in
    let symbol : c.cell.inside.symbol ≡ c.cell-item.result.symbol = ap (λ (at : CellData). at.symbol) c.cell.view_is in
    let value : Con c.cell.inside.symbol (word_values (cell_values c.loop-cell.heap) c.deref-in-loop-cell-2.result.now)
    ≡ Con c.cell-item.result.symbol (word_values (cell_values c.loop-cell.heap) (map (moved c.loop-cell.words.items) c.cell-item.result.arguments)) = cc (arguments, symbol) in
    let found' = subst (λ (n : ℕ). slice_get c.args.cells.now n ≡ Some c.cell-item.result) (sym c.loop-cell.invariant.count) found in
    let word : IsWordFor c.build.new.self (Con c.cell.inside.symbol (word_values (cell_values c.loop-cell.heap) c.deref-in-loop-cell-2.result.now)) c.in_ok-build.field-0 = c.in_ok-build.ensures.word in
    let word' = subst (λ (v : Value). IsWordFor c.build.new.self v c.in_ok-build.field-0) value word in
    record {
      words = subst (AreMoved c.args.cells.now c.build.new.self) (sym c.in_ok-push.ensures.items)
          (moved_next c.args.cells.now c.loop-cell.heap c.build.new.self c.loop-cell.words.items c.cell-item.result c.in_ok-build.field-0
          c.requires.lower c.loop-cell.invariant.words c.in_ok-build.ensures.kept found' word');
      count = ap length c.in_ok-push.ensures.items ∙ length-append c.loop-cell.words.items (c.in_ok-build.field-0 ∷ []) ∙ ap (λ n. n + 1) c.loop-cell.invariant.count;
      kept = keeps_more c.args.heap.now c.loop-cell.heap c.build.new.self c.loop-cell.invariant.kept c.in_ok-build.ensures.kept;
      front = front_more c.args.heap.now c.loop-cell.heap c.build.new.self c.loop-cell.invariant.front c.in_ok-build.ensures.front;
    }
