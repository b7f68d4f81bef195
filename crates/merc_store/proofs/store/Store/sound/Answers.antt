use Rattle.std.proofs.Common.{length, subst}
use Rattle.merc_store.specs.Data.{StoreData, IsSound}
use Rattle.merc_store.proofs.HeldLaws.{is_slot_below, told_sound}
use Rattle.merc_store.proofs.store.Store.sound.Goals as goal

pub returns : goal.returns
returns c = subst (λ (s : StoreData). IsSound s.cells s.stacks) c.self.view_is
    (told_sound c.self.inside.heap c.self.inside.frames (c.held.ensures is_slot_below (length c.self.inside.heap)) c.self.invariant)
