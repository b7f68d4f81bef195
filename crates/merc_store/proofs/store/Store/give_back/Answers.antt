use Rattle.std.proofs.Common.{refl, length}
use Rattle.merc_store.proofs.HeldLaws.{is_slot_below, step_held}
use Rattle.merc_store.proofs.store.Store.give_back.Goals as goal

pub invariant_of-self-2 : goal.invariant_of-self-2
invariant_of-self-2 c =
    let cells = length c.self.inside.heap in
    step_held cells cells c.self.inside.frames c.give_back.new.self (c.give_back.ensures.held is_slot_below cells refl) c.self.invariant
