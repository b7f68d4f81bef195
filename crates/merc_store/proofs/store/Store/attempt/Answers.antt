use Rattle.std.proofs.Common.{◌≡◌, length, refl, ◌∙◌}
use Rattle.merc_store.proofs.HeldLaws.{is_slot_below, same_held}
use Rattle.merc_store.proofs.store.Store.attempt.Goals as goal

pub invariant_of-self : goal.invariant_of-self
invariant_of-self c =
    let mark : c.number.result ≡ length c.self.inside.heap = c.number.ensures ∙ c.mark.ensures in
    same_held c.self.inside.heap c.number.result mark c.self.inside.frames c.attempt.new.self (c.attempt.ensures.held is_slot_below refl) c.self.invariant

pub invariant_of-self-2 : goal.invariant_of-self-2
invariant_of-self-2 c =
    let mark : c.number.result ≡ length c.self.inside.heap = c.number.ensures ∙ c.mark.ensures in
    same_held c.self.inside.heap c.number.result mark c.self.inside.frames c.attempt.new.self (c.attempt.ensures.held is_slot_below refl) c.self.invariant
