use Rattle.std.proofs.Common.{length, sym, subst}
use Rattle.std.specs.List.{All}
use Rattle.merc_value.specs.Block.{IsBelow, root_values}
use Rattle.merc_frames.specs.Stacks.{Stacks}
use Rattle.merc_segments.specs.Segments.{AreWordsFor}
use Rattle.merc_store.specs.Data.{StoreData}
use Rattle.merc_store.specs.Frozen.{Thaws}
use Rattle.merc_store.proofs.SoundLemmas.{grown_held, front_longer}
use Rattle.merc_store.proofs.Stores.{store_of, sound_inside}
use Rattle.merc_store.proofs.ThawingLemmas.{thaws}
use Rattle.merc_store.proofs.store.Store.thaw_into.Goals as goal

pub invariant_of-self-2 : goal.invariant_of-self-2
invariant_of-self-2 c =
    let cells = c.thaw.new.heap in
    let below : All (IsBelow (length cells)) c.deref.result.now = subst (All (IsBelow (length cells))) (sym c.deref.ensures.value) c.in_ok-words.ensures.words.below in
    c.store_words.ensures.held (length cells) below (grown_held c.self.inside.heap cells c.self.inside.frames (front_longer c.self.inside.heap cells c.in_ok-words.ensures.front) c.self.invariant)

pub returns-clause-ok : goal.returns-clause-ok
returns-clause-ok c =
    let old = store_of c.self.inside.heap c.self.inside.frames.stacks in
    let cells = c.thaw.new.heap in
    let values = root_values c.args.values.now in
    let are : AreWordsFor cells values c.deref.result.now = subst (AreWordsFor cells values) (sym c.deref.ensures.value) c.in_ok-words.ensures.words in
    subst (λ (s : StoreData). Thaws s (store_of cells c.store_words.new.frames.stacks) c.args.variables.now values) c.self.view_is
    (subst (λ (stacks : Stacks). Thaws old (store_of cells stacks) c.args.variables.now values) (sym c.store_words.ensures.stacks)
    (thaws old cells c.args.variables.now c.deref.result.now values are c.in_ok-words.ensures.kept c.in_ok-words.ensures.front
    (sound_inside old c.args.self.now c.self.view_is c.sound.ensures).frames.newest))
