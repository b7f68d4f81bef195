use Rattle.std.proofs.Common.{◌≡◌, ◌++◌, length, sym, ap, subst, ◌∙◌}
use Rattle.std.specs.List.{All}
use Rattle.merc_value.specs.Block.{IsBelow, root_values}
use Rattle.merc_store.specs.Data.{StoreData}
use Rattle.merc_store.specs.Frozen.{Freezes, held_variables, held_words}
use Rattle.merc_store.proofs.FreezingLemmas.{freezes, frozen_from, held_below}
use Rattle.merc_store.proofs.Stores.{store_of, sound_inside}
use Rattle.merc_store.proofs.store.Store.freeze.Goals as goal

pub freeze-requires : goal.freeze-requires
freeze-requires c =
    let old = store_of c.self.inside.heap c.self.inside.frames.stacks in
    let are : c.deref.result.now ≡ held_words old.stacks.current c.args.variables.now =
    c.deref.ensures.value ∙ c.in_ok-add_all.ensures.words ∙ ap (λ those. those ++ held_words old.stacks.current c.args.variables.now) c.new-words.ensures.items in
    subst (All (IsBelow (length c.self.inside.heap))) (sym are)
    (held_below (length c.self.inside.heap) old.stacks.current c.args.variables.now (sound_inside old c.args.self.now c.self.view_is c.sound.ensures).frames.newest)

pub returns : goal.returns
returns c =
    let old = store_of c.self.inside.heap c.self.inside.frames.stacks in
    let held = c.add_all.new.held.items in
    let values = root_values c.in_ok-values.values in
    subst (λ (s : StoreData). Freezes s c.args.variables.now (frozen_from held values)) c.self.view_is
    (freezes old c.args.variables.now held c.deref.result.now values
    (c.in_ok-add_all.ensures.variables ∙ ap (λ those. those ++ held_variables old.stacks.current c.args.variables.now) c.new-held.ensures.items)
    (c.deref.ensures.value ∙ c.in_ok-add_all.ensures.words ∙ ap (λ those. those ++ held_words old.stacks.current c.args.variables.now) c.new-words.ensures.items)
    c.in_ok-values.ensures.roots.same)
