-- The next word's place is added after those so far.
use Rattle.merc_segments.proofs.PlaceLemmas.{item_found}
use Rattle.merc_segments.proofs.ReachLemmas.{adds_none, adds_next}
use Rattle.merc_segments.proofs.reaching.add_words.Goals as goal

pub loop-word-init : goal.loop-word-init
loop-word-init c = adds_none c.args.words.now c.args.pending.now

pub loop-word-preserved : goal.loop-word-preserved
loop-word-preserved c =
    adds_next c.args.words.now c.loop-word.word-index c.word-item.result c.args.pending.now c.loop-word.pending c.add.new.self
    (item_found c.args.words.now c.loop-word.word-index c.word-item.result c.loop-word-test.true c.word-item.is) c.loop-word.invariant c.in_ok-add.ensures
