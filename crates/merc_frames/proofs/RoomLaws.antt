-- The current frame has the slots that are read, by the size that is kept of it, and the newest caller's those that outputs go to.
use Rattle.std.proofs.Common.{◌≡◌, ℕ, ◌-◌, ◌<◌, List, length, Some, slice_get, sym, ap, ◌∙◌, subst, arith}
use Rattle.merc_frames.specs.declared.passing.Pass.{Pass}
use Rattle.merc_frames.specs.declared.slot.Slot.{Slot}
use Rattle.merc_frames.specs.declared.kept.Saved.{Saved}
use Rattle.merc_frames.specs.declared.kept.Kept.{Kept}
use Rattle.merc_frames.specs.Rooms.{AreCallerSlots, AreSlots, AreTaken}
use Rattle.merc_frames.specs.Stacks.{Stacks}
use Rattle.merc_frames.specs.View.{view_of, Fine}
use Rattle.merc_frames.proofs.FrameLaws.{frame_length}
use Rattle.merc_frames.proofs.Returning.{return_callers}

module _ (w : List Slot) (saved : List Saved) (cs : List Kept) (base size h : ℕ) (f : Fine w saved cs base size h) (shown : Stacks) (e : view_of w saved cs base size h ≡ shown) where
  -- its frame has these slots, by the size that is kept of it
  pub caller_slots : (s : Saved) (outs : List ℕ) → 0 < h → slice_get saved (h - 1) ≡ Some s → AreCallerSlots shown.callers outs → AreSlots s.size outs
  caller_slots s outs used frame are =
      let top = f.tops (h - 1) s frame in
      let within = f.within in
      let here = ap (λ (x : Stacks). x.callers) (sym e) ∙ return_callers w saved cs base size h s f used frame in
      subst (λ n. AreSlots n outs) (frame_length w s.base s.size (omega (arith, top, within))) (subst (λ callers. AreCallerSlots callers outs) here are)

  current_length : length shown.current ≡ size
  current_length = sym (ap (λ (x : Stacks). length x.current) e) ∙ frame_length w base size f.within

  pub own_slots : (own : List ℕ) → AreSlots (length shown.current) own → AreSlots size own
  own_slots own are = subst (λ n. AreSlots n own) current_length are

  pub own_passes : (inputs : List Pass) → AreTaken (length shown.current) inputs → AreTaken size inputs
  own_passes inputs are = subst (λ n. AreTaken n inputs) current_length are
