-- All places that the words lead to have their copies.
use Rattle.std.proofs.Common.{ℕ, List, ◌++◌, ◌∙◌, ap, sym, subst, length, map, arith}
use Rattle.std.specs.List.{All}
use Rattle.merc_value.specs.Block.{BlockData, IsBelow, value_of}
use Rattle.merc_value.specs.declared.word.Word.{Word}
use Rattle.merc_segments.specs.Segments.{AreWordsFor}
use Rattle.merc_segments.specs.Places.{copy_of, AreCopies}
use Rattle.merc_segments.proofs.PlaceLemmas.{rising_count}
use Rattle.merc_segments.proofs.FreezeLemmas.{block_with, copied_roots}
use Rattle.merc_segments.proofs.freezing.freeze.Goals as goal

pub add_roots-requires-clause-below : goal.add_roots-requires-clause-below
add_roots-requires-clause-below c =
    subst (λ (ps : List ℕ). All (IsBelow (length c.in_ok-block.block.cells)) (map (copy_of ps) c.args.words.now)) (sym c.deref-2.ensures.value)
    (copied_roots c.args.heap.now c.in_ok-places.places.items c.in_ok-block.block.cells
    (subst (λ (ps : List ℕ). AreCopies c.args.heap.now ps c.in_ok-block.block.cells) c.deref.ensures.value c.in_ok-block.ensures.copies)
    (c.in_ok-block.ensures.count ∙ ap length c.deref.ensures.value) c.args.words.now c.in_ok-places.ensures.words).below

pub returns-clause-roots : goal.returns-clause-roots
returns-clause-roots c =
    subst (λ (b : BlockData). AreWordsFor b.cells (map (value_of c.args.heap.now) c.args.words.now) b.roots)
    (sym (c.in_ok-add_roots.ensures
    ∙ ap (λ (rs : List Word). block_with c.in_ok-block.block.cells (rs ++ map (copy_of c.deref-2.result.now) c.args.words.now)) c.in_ok-block.ensures.roots
    ∙ ap (λ (ps : List ℕ). block_with c.in_ok-block.block.cells (map (copy_of ps) c.args.words.now)) c.deref-2.ensures.value))
    (copied_roots c.args.heap.now c.in_ok-places.places.items c.in_ok-block.block.cells
    (subst (λ (ps : List ℕ). AreCopies c.args.heap.now ps c.in_ok-block.block.cells) c.deref.ensures.value c.in_ok-block.ensures.copies)
    (c.in_ok-block.ensures.count ∙ ap length c.deref.ensures.value) c.args.words.now c.in_ok-places.ensures.words)

pub returns-clause-few : goal.returns-clause-few
returns-clause-few c =
    let cells = ap (λ (b : BlockData). length b.cells) c.in_ok-add_roots.ensures in
    let count = c.in_ok-block.ensures.count ∙ ap length c.deref.ensures.value in
    let few = rising_count (length c.args.heap.now) c.in_ok-places.places.items c.in_ok-places.ensures.closed.rises c.in_ok-places.ensures.closed.within in
    omega (arith, cells, count, few)
