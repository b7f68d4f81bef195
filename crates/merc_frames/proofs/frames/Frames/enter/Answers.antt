use Rattle.std.proofs.Common.{inl, refl, sym, ap, ◌∙◌, subst, arith}
use Rattle.merc_frames.specs.Held.{FramesData, Passes}
use Rattle.merc_frames.specs.View.{view_of, Fine}
use Rattle.merc_frames.proofs.AllLaws.{grown_each}
use Rattle.merc_frames.proofs.Built.{built_passed, built_passed_each}
use Rattle.merc_frames.proofs.FrameLaws.{left_empty, left_length}
use Rattle.merc_frames.proofs.Moving.{grown_fine, grown_held, grown_view, on_err}
use Rattle.merc_frames.proofs.Entering.{entered_fine, entered_kept, entered}
use Rattle.merc_frames.proofs.RoomLaws.{own_passes}
use Rattle.merc_frames.proofs.frames.Frames.enter.Goals as goal

abbrev pub returns-in_err-make_room-clause-err : goal.returns-in_err-make_room-clause-err
returns-in_err-make_room-clause-err c = on_err c.from_residual.result _ (grown_view _ _ _ _ _ _ _ c.self.invariant.0 c.in_err-make_room.ensures.grows ∙ ap (λ (f : FramesData). f.stacks) c.self.view_is)

abbrev pub returns-in_err-make_room-clause-held : goal.returns-in_err-make_room-clause-held
returns-in_err-make_room-clause-held c = rw (← c.self.view_is) (λ may_hold. grown_held _ _ _ _ _ _ _ c.self.invariant.0 c.in_err-make_room.ensures.grows (Passes may_hold))

abbrev pub returns-in_err-push-clause-err : goal.returns-in_err-push-clause-err
returns-in_err-push-clause-err c = on_err c.from_residual-in_err-push.result _
    (ap (λ x. view_of c.make_room.new.slots.items x c.self.inside.choices.items c.self.inside.base c.self.inside.size c.self.inside.height) c.in_err-push.ensures.items
    ∙ grown_view _ _ _ _ _ _ _ c.self.invariant.0 c.in_ok-make_room.ensures.grows ∙ ap (λ (f : FramesData). f.stacks) c.self.view_is)

abbrev pub returns-in_err-push-clause-held : goal.returns-in_err-push-clause-held
returns-in_err-push-clause-held c = rw (← c.self.view_is) (λ may_hold. grown_held _ _ _ _ _ _ _ c.self.invariant.0 c.in_ok-make_room.ensures.grows (Passes may_hold))

abbrev pub invariant_of-self-2 : goal.invariant_of-self-2
invariant_of-self-2 c =
    let built = built_passed _ _ _ _ _ _ _ c.self.invariant.0 c.in_ok-make_room.ensures.grows _ c.args.size (omega arith) _ _ _ c.args.inputs.now _ c.deref_mut.ensures.value c.make_frame.ensures.long
    c.make_room.new.slots.ok.0 c.in_ok-make_room.ensures.ok c.make_frame.ensures.below c.make_frame.ensures.made in
    (entered_fine _ _ _ _ _ _ _ _ c.self.invariant.0 refl refl refl _ _ _ _ built c.in_ok-push.ensures.items (c.len-self-inside.ensures ∙ c.push.new.self.ok.0), c.self.invariant.1)

abbrev pub returns-clause-ok : goal.returns-clause-ok
returns-clause-ok c =
    let built = built_passed _ _ _ _ _ _ _ c.self.invariant.0 c.in_ok-make_room.ensures.grows _ c.args.size (omega arith) _ _ _ c.args.inputs.now _ c.deref_mut.ensures.value c.make_frame.ensures.long
    c.make_room.new.slots.ok.0 c.in_ok-make_room.ensures.ok c.make_frame.ensures.below c.make_frame.ensures.made in
    rw (← c.self.view_is)
    (entered _ _ _ _ _ _ _ _ c.self.invariant.0 refl refl refl _ _ _ _ built c.in_ok-push.ensures.items (c.len-self-inside.ensures ∙ c.push.new.self.ok.0) c.args.is_emptied c.args.inputs.now _ refl
    (left_length c.args.is_emptied _ _ _ _ c.deref_mut.ensures.value c.in_ok-make_room.ensures.ok) (left_empty c.args.is_emptied _ _))

abbrev pub returns-clause-held : goal.returns-clause-held
returns-clause-held c =
    let built = built_passed _ _ _ _ _ _ _ c.self.invariant.0 c.in_ok-make_room.ensures.grows _ c.args.size (omega arith) _ _ _ c.args.inputs.now _ c.deref_mut.ensures.value c.make_frame.ensures.long
    c.make_room.new.slots.ok.0 c.in_ok-make_room.ensures.ok c.make_frame.ensures.below c.make_frame.ensures.made in
    rw (← c.self.view_is) (λ may_hold cells none held. (
      built_passed_each (Passes may_hold cells) none _ _ _ _ _ _ _ _ c.args.inputs.now c.args.is_emptied (grown_each (Passes may_hold cells) none _ _ c.in_ok-make_room.ensures.grows held.0)
          c.deref_mut.ensures.value c.make_frame.ensures.long c.make_room.new.slots.ok.0 c.make_frame.ensures.below c.make_frame.ensures.above c.make_frame.ensures.made,
      entered_kept _ _ _ _ _ _ _ _ c.self.invariant.0 refl refl refl _ _ _ _ built c.in_ok-push.ensures.items (c.len-self-inside.ensures ∙ c.push.new.self.ok.0) (Passes may_hold) cells held.1,
    ))

abbrev pub make_frame-requires-clause-apart : goal.make_frame-requires-clause-apart
make_frame-requires-clause-apart c = inl (omega arith)

abbrev pub invariant_of-self-in_err-push : goal.invariant_of-self-in_err-push
invariant_of-self-in_err-push c = (
  subst (λ x. Fine c.make_room.new.slots.items x c.self.inside.choices.items c.self.inside.base c.self.inside.size c.self.inside.height) (sym c.in_err-push.ensures.items)
      (grown_fine _ _ _ _ _ _ _ c.self.invariant.0 c.in_ok-make_room.ensures.grows),
  c.self.invariant.1,
)

abbrev pub make_frame-requires-clause-taken : goal.make_frame-requires-clause-taken
make_frame-requires-clause-taken c = own_passes _ _ _ _ _ _ c.self.invariant.0 _ (ap (λ (f : FramesData). f.stacks) c.self.view_is) c.args.inputs.now c.requires.taken
