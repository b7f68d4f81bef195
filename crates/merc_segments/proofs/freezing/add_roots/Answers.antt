-- The next word's copy leads to a cell that is there.
use Rattle.std.proofs.Common.{List, ap, sym, subst, length}
use Rattle.merc_value.specs.Block.{CellData, BlockData, IsBelow}
use Rattle.merc_segments.proofs.PlaceLemmas.{item_found}
use Rattle.merc_segments.proofs.FreezeLemmas.{mapped_below}
use Rattle.merc_segments.proofs.freezing.add_roots.Goals as goal

pub add_root-requires : goal.add_root-requires
add_root-requires c =
    subst (λ (cs : List CellData). IsBelow (length cs) c.copied.result) (sym (ap (λ (b : BlockData). b.cells) c.loop-word.invariant))
    (subst (IsBelow (length c.args.block.now.cells)) (sym c.copied.ensures)
    (mapped_below (length c.args.block.now.cells) c.args.places.now c.args.words.now c.requires.below c.loop-word.word-index c.word-item.result
    (item_found c.args.words.now c.loop-word.word-index c.word-item.result c.loop-word-test.true c.word-item.is)))
