use Rattle.std.proofs.Common.{refl, sym, ap, ◌∙◌, subst, arith}
use Rattle.merc_frames.specs.Held.{FramesData, Passes}
use Rattle.merc_frames.specs.View.{data_of}
use Rattle.merc_frames.proofs.AllLaws.{grown_each}
use Rattle.merc_frames.proofs.Built.{built_passed, built_passed_each}
use Rattle.merc_frames.proofs.FrameLaws.{left_empty, left_length}
use Rattle.merc_frames.proofs.HeldLaws.{Holding}
use Rattle.merc_frames.proofs.Moving.{on_err}
use Rattle.merc_frames.proofs.Newest.{count_read, low_read, low_under}
use Rattle.merc_frames.proofs.Entering.{renewed_fine, renewed_kept, renewed}
use Rattle.merc_frames.proofs.RoomLaws.{own_passes}
use Rattle.merc_frames.proofs.frames.Frames.renew_apart.Goals as goal

abbrev pub returns-in_err-make_room-clause-err : goal.returns-in_err-make_room-clause-err
returns-in_err-make_room-clause-err c = on_err c.from_residual.result _ (ap (λ x. data_of x c.self.inside.saved.items c.self.inside.choices.items c.self.inside.base c.self.inside.size c.self.inside.height) c.in_err-make_room.ensures.err ∙ c.self.view_is)

abbrev pub returns-in_err-make_room-clause-held : goal.returns-in_err-make_room-clause-held
returns-in_err-make_room-clause-held c = rw (← c.self.view_is) (λ may_hold cells none held. subst (λ x. Holding (Passes may_hold) cells x c.self.inside.choices.items) (sym c.in_err-make_room.ensures.err) held)

abbrev pub base_of-base-requires-clause-under : goal.base_of-base-requires-clause-under
base_of-base-requires-clause-under c =
    let low_is = low_read _ _ _ _ _ _ _ _ c.self.invariant.1 c.deref.ensures.value c.caller_end.ensures c.larger_of-low.ensures in
    let under = low_under _ _ _ _ _ _ c.self.invariant.0 c.self.inside.height in
    omega (arith, under, low_is)

abbrev pub invariant_of-self-2 : goal.invariant_of-self-2
invariant_of-self-2 c =
    let built = built_passed _ _ _ _ _ _ _ c.self.invariant.0 c.in_ok-make_room.ensures.grows _ c.args.size c.base_of-base.ensures.under _ _ _ c.args.inputs.now _ c.deref_mut.ensures.value c.make_frame.ensures.long
    c.make_room.new.slots.ok.0 c.in_ok-make_room.ensures.ok c.make_frame.ensures.below c.make_frame.ensures.made in
    let count_is = count_read _ _ _ _ _ c.self.invariant.1 c.larger_of-count.ensures in
    let low_is = low_read _ _ _ _ _ _ _ _ c.self.invariant.1 c.deref.ensures.value c.caller_end.ensures c.larger_of-low.ensures in
    let above = c.base_of-base.ensures.low in
    (renewed_fine _ _ _ _ _ _ _ _ c.self.invariant.0 _ _ _ _ built count_is (omega (arith, low_is, above)) c.truncate.ensures.items, c.self.invariant.1)

abbrev pub returns-clause-ok : goal.returns-clause-ok
returns-clause-ok c =
    let built = built_passed _ _ _ _ _ _ _ c.self.invariant.0 c.in_ok-make_room.ensures.grows _ c.args.size c.base_of-base.ensures.under _ _ _ c.args.inputs.now _ c.deref_mut.ensures.value c.make_frame.ensures.long
    c.make_room.new.slots.ok.0 c.in_ok-make_room.ensures.ok c.make_frame.ensures.below c.make_frame.ensures.made in
    let count_is = count_read _ _ _ _ _ c.self.invariant.1 c.larger_of-count.ensures in
    let low_is = low_read _ _ _ _ _ _ _ _ c.self.invariant.1 c.deref.ensures.value c.caller_end.ensures c.larger_of-low.ensures in
    let above = c.base_of-base.ensures.low in
    rw (← c.self.view_is) (renewed _ _ _ _ _ _ _ _ c.self.invariant.0 _ _ _ _ built count_is (omega (arith, low_is, above)) c.truncate.ensures.items c.args.is_emptied c.args.inputs.now _ refl
    (left_length c.args.is_emptied _ _ _ _ c.deref_mut.ensures.value c.in_ok-make_room.ensures.ok) (left_empty c.args.is_emptied _ _))

abbrev pub returns-clause-held : goal.returns-clause-held
returns-clause-held c =
    let built = built_passed _ _ _ _ _ _ _ c.self.invariant.0 c.in_ok-make_room.ensures.grows _ c.args.size c.base_of-base.ensures.under _ _ _ c.args.inputs.now _ c.deref_mut.ensures.value c.make_frame.ensures.long
    c.make_room.new.slots.ok.0 c.in_ok-make_room.ensures.ok c.make_frame.ensures.below c.make_frame.ensures.made in
    let count_is = count_read _ _ _ _ _ c.self.invariant.1 c.larger_of-count.ensures in
    let low_is = low_read _ _ _ _ _ _ _ _ c.self.invariant.1 c.deref.ensures.value c.caller_end.ensures c.larger_of-low.ensures in
    let above = c.base_of-base.ensures.low in
    rw (← c.self.view_is) (λ may_hold cells none held. (
      built_passed_each (Passes may_hold cells) none _ _ _ _ _ _ _ _ c.args.inputs.now c.args.is_emptied (grown_each (Passes may_hold cells) none _ _ c.in_ok-make_room.ensures.grows held.0)
          c.deref_mut.ensures.value c.make_frame.ensures.long c.make_room.new.slots.ok.0 c.make_frame.ensures.below c.make_frame.ensures.above c.make_frame.ensures.made,
      renewed_kept _ _ _ _ _ _ _ _ c.self.invariant.0 _ _ _ _ built count_is (omega (arith, low_is, above)) c.truncate.ensures.items (Passes may_hold) cells held.1,
    ))

abbrev pub make_frame-requires-clause-taken : goal.make_frame-requires-clause-taken
make_frame-requires-clause-taken c = own_passes _ _ _ _ _ _ c.self.invariant.0 _ (ap (λ (f : FramesData). f.stacks) c.self.view_is) c.args.inputs.now c.requires.taken
