use Rattle.std.proofs.Common.{◌≡◌, ◌≤◌, length, sym, ap, subst, ◌∙◌, arith}
use Rattle.std.proofs.lemmas.List.{length-take-le}
use Rattle.merc_frames.specs.Held.{AreHeld}
use Rattle.merc_store.specs.Data.{IsSlotBelow}
use Rattle.merc_store.proofs.HeldLaws.{end_held, is_slot_below, mark_there, same_held}
use Rattle.merc_store.proofs.Stores.{store_of, sound_inside}
use Rattle.merc_store.proofs.store.Store.back.Goals as goal

pub invariant_of-self : goal.invariant_of-self
invariant_of-self c =
    let mark : c.number.result ≡ length c.self.inside.heap = c.number.ensures ∙ c.mark.ensures in
    same_held c.self.inside.heap c.number.result mark c.self.inside.frames c.back.new.self (c.in-End.ensures.held is_slot_below) c.self.invariant

pub invariant_of-self-in-Dead : goal.invariant_of-self-in-Dead
invariant_of-self-in-Dead c =
    let mark : c.number.result ≡ length c.self.inside.heap = c.number.ensures ∙ c.mark.ensures in
    same_held c.self.inside.heap c.number.result mark c.self.inside.frames c.back.new.self (c.in-Dead.ensures.held is_slot_below) c.self.invariant

pub invariant_of-self-in-On : goal.invariant_of-self-in-On
invariant_of-self-in-On c =
    let heap = c.self.inside.heap in
    let before = c.self.inside.frames in
    let after = c.back.new.self in
    let mark : c.number.result ≡ length heap = c.number.ensures ∙ c.mark.ensures in
    let sound = sound_inside (store_of heap before.stacks) c.args.self.now c.self.view_is c.sound.ensures in
    let under : c.in-On.heap ≤ length heap = mark_there heap before.stacks after.stacks c.in-On.place c.in-On.heap sound c.in-On.ensures.stacks in
    let long : length c.cut_to.new.self ≡ c.in-On.heap = ap length c.cut_to.ensures.cut ∙ length-take-le c.new.result heap (omega (arith, under, c.new.ensures)) ∙ c.new.ensures in
    subst (λ n. AreHeld IsSlotBelow n after) (sym long) (end_held heap c.number.result c.in-On.heap mark before after (c.in-On.ensures.held is_slot_below) c.self.invariant)
