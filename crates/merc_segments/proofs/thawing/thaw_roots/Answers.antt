-- The roots lead to cells, which have their words.
use Rattle.std.proofs.Common.{◌≡◌, ◌∙◌, ℕ, List, ap, sym, subst, length, map}
use Rattle.std.specs.List.{All}
use Rattle.std.proofs.lemmas.Result.{IfOk-weaker}
use Rattle.merc_value.specs.Block.{CellData, IsBelow, value_of}
use Rattle.merc_value.specs.Sharing.{AreMoved, moved}
use Rattle.merc_value.specs.declared.word.Word.{Word}
use Rattle.merc_segments.specs.Segments.{AreWordsFor}
use Rattle.merc_segments.proofs.ThawLemmas.{moved_roots}
use Rattle.merc_segments.proofs.thawing.thaw_roots.Goals as goal

pub moved_all-requires : goal.moved_all-requires
moved_all-requires c =
    subst (All (IsBelow (length c.deref.result.now))) (sym c.roots.ensures)
    (subst (λ (n : ℕ). All (IsBelow n) c.args.block.now.roots) (sym (ap length c.deref.ensures.value ∙ c.in_ok-words.ensures.count ∙ ap length c.cells.ensures.value)) c.cells.ensures.whole.within)

pub returns-clause-words : goal.returns-clause-words
returns-clause-words c =
    let words : AreMoved c.args.block.now.cells c.thaw_cells.new.heap c.in_ok-words.words.items =
    subst (λ (cs : List CellData). AreMoved cs c.thaw_cells.new.heap c.in_ok-words.words.items) c.cells.ensures.value c.in_ok-words.ensures.words in
    let below : All (IsBelow (length c.in_ok-words.words.items)) c.args.block.now.roots =
    subst (λ (n : ℕ). All (IsBelow n) c.args.block.now.roots) (sym (c.in_ok-words.ensures.count ∙ ap length c.cells.ensures.value)) c.cells.ensures.whole.within in
    let roots = moved_roots c.args.block.now.cells c.thaw_cells.new.heap c.in_ok-words.words.items words c.args.block.now.roots below in
    let given : map (moved c.deref.result.now) c.roots.result.now ≡ map (moved c.in_ok-words.words.items) c.args.block.now.roots =
    ap (λ (ws : List Word). map (moved ws) c.roots.result.now) c.deref.ensures.value ∙ ap (map (moved c.in_ok-words.words.items)) c.roots.ensures in
    IfOk-weaker c.moved_all.result _ _
    (λ all is. subst (AreWordsFor c.thaw_cells.new.heap (map (value_of c.args.block.now.cells) c.args.block.now.roots)) (sym (is ∙ given)) roots) c.moved_all.ensures
