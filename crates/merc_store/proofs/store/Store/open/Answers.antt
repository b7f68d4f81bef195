use Rattle.std.proofs.Common.{length, refl}
use Rattle.merc_store.proofs.HeldLaws.{from_test, is_slot_below}
use Rattle.merc_store.proofs.store.Store.open.Goals as goal

pub invariant_of-self-2 : goal.invariant_of-self-2
invariant_of-self-2 c = from_test (length c.cut_to.new.self) c.open.new.self (c.in_ok-open.ensures.held is_slot_below (length c.cut_to.new.self) refl)
