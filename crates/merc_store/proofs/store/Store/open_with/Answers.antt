use Rattle.std.proofs.Common.{length, sym, ap, subst, ◌∙◌}
use Rattle.std.proofs.lemmas.Result.{on_ok_weaker}
use Rattle.merc_value.specs.Block.{root_values}
use Rattle.merc_frames.specs.Rooms.{AreSlots}
use Rattle.merc_store.specs.Data.{StoreData}
use Rattle.merc_store.specs.Frozen.{Thaws, frozen_in}
use Rattle.merc_store.proofs.EmptyFrames.{empty_length}
use Rattle.merc_store.proofs.ThawingLemmas.{opens_with}
use Rattle.merc_store.proofs.store.Store.open_with.Goals as goal

pub thaw_into-requires : goal.thaw_into-requires
thaw_into-requires c =
    let size = ap (λ (s : StoreData). length s.stacks.current) c.in_ok-open.ensures ∙ empty_length c.args.size in
    record {
      slots = subst (λ n. AreSlots n c.deref.result.now) (sym size) (subst (AreSlots c.args.size) (sym c.deref.ensures.value) c.requires.slots);
    }

pub returns : goal.returns
returns c =
    on_ok_weaker c.thaw_into.result
    (λ thawed. opens_with c.thaw_into.new.self c.args.size (frozen_in c.args.frozen.now)
    (subst (λ (s : StoreData). Thaws s c.thaw_into.new.self c.args.frozen.now.variables.items (root_values c.args.frozen.now.values)) c.in_ok-open.ensures
    (subst (λ variables. Thaws c.open.new.self c.thaw_into.new.self variables (root_values c.args.frozen.now.values)) c.deref.ensures.value thawed)))
    c.thaw_into.ensures.ok
