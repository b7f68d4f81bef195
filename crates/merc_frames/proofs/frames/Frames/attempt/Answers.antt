use Rattle.std.proofs.Common.{refl, sym, ap, ◌∙◌, subst, arith}
use Rattle.merc_frames.proofs.Built.{copied_each}
use Rattle.merc_frames.proofs.HeldLaws.{Holding}
use Rattle.merc_frames.proofs.Moving.{grown_fine, grown_held, grown_view, on_err}
use Rattle.merc_frames.proofs.Choices.{attempt_fine, attempt_held, attempt_view}
use Rattle.merc_frames.proofs.Newest.{needs_last}
use Rattle.merc_frames.specs.Held.{FramesData, Passes}
use Rattle.merc_frames.specs.View.{view_of}
use Rattle.merc_frames.proofs.frames.Frames.attempt.Goals as goal

abbrev pub returns-in_err-make_room-clause-err : goal.returns-in_err-make_room-clause-err
returns-in_err-make_room-clause-err c = on_err c.from_residual.result _ (grown_view _ _ _ _ _ _ _ c.self.invariant.0 c.in_err-make_room.ensures.grows ∙ ap (λ (f : FramesData). f.stacks) c.self.view_is)

abbrev pub returns-in_err-make_room-clause-held : goal.returns-in_err-make_room-clause-held
returns-in_err-make_room-clause-held c = rw (← c.self.view_is) (λ may_hold. grown_held _ _ _ _ _ _ _ c.self.invariant.0 c.in_err-make_room.ensures.grows (Passes may_hold) c.args.heap)

abbrev pub returns-in_err-push-clause-err : goal.returns-in_err-push-clause-err
returns-in_err-push-clause-err c = on_err c.from_residual-in_err-push.result _
    (ap (λ x. view_of c.make_room.new.slots.items c.self.inside.saved.items x c.self.inside.base c.self.inside.size c.self.inside.height) c.in_err-push.ensures.items
    ∙ grown_view _ _ _ _ _ _ _ c.self.invariant.0 c.in_ok-make_room.ensures.grows ∙ ap (λ (f : FramesData). f.stacks) c.self.view_is)

abbrev pub returns-in_err-push-clause-held : goal.returns-in_err-push-clause-held
returns-in_err-push-clause-held c = rw (← c.self.view_is) (λ may_hold none held. subst (λ x. Holding (Passes may_hold) c.args.heap c.make_room.new.slots.items x) (sym c.in_err-push.ensures.items)
    (grown_held _ _ _ _ _ _ _ c.self.invariant.0 c.in_ok-make_room.ensures.grows (Passes may_hold) c.args.heap none held))

abbrev pub invariant_of-self-2 : goal.invariant_of-self-2
invariant_of-self-2 c =
    let f = grown_fine _ _ _ _ _ _ _ c.self.invariant.0 c.in_ok-make_room.ensures.grows in
    let room = c.in_ok-make_room.ensures.ok in
    let long = c.copy_up.ensures.long in
    (attempt_fine _ _ _ _ _ _ _ _ f refl refl refl (c.len-saved.ensures ∙ c.self.inside.saved.ok.0) c.copy_up.ensures.below _ _ c.in_ok-push.ensures.items refl (omega (arith, room, long)), needs_last _ _ _ c.in_ok-push.ensures.items)

abbrev pub returns-clause-ok : goal.returns-clause-ok
returns-clause-ok c =
    let f = grown_fine _ _ _ _ _ _ _ c.self.invariant.0 c.in_ok-make_room.ensures.grows in
    rw (← (grown_view _ _ _ _ _ _ _ c.self.invariant.0 c.in_ok-make_room.ensures.grows ∙ ap (λ (f : FramesData). f.stacks) c.self.view_is))
    (attempt_view _ _ _ _ _ _ _ _ f refl refl refl (c.len-saved.ensures ∙ c.self.inside.saved.ok.0) c.copy_up.ensures.below refl _ _ c.in_ok-push.ensures.items refl c.copy_up.ensures.copied)

abbrev pub returns-clause-held : goal.returns-clause-held
returns-clause-held c =
    let f = grown_fine _ _ _ _ _ _ _ c.self.invariant.0 c.in_ok-make_room.ensures.grows in
    rw (← c.self.view_is) (λ may_hold none held.
    (let grown = grown_held _ _ _ _ _ _ _ c.self.invariant.0 c.in_ok-make_room.ensures.grows (Passes may_hold) c.args.heap none held in
    attempt_held _ _ _ _ _ _ _ _ f refl refl refl (c.len-saved.ensures ∙ c.self.inside.saved.ok.0) c.copy_up.ensures.below (Passes may_hold) c.args.heap _ c.in_ok-push.ensures.items refl
    (copied_each (Passes may_hold c.args.heap) _ _ _ _ _ grown.0 c.copy_up.ensures.below c.copy_up.ensures.above c.copy_up.ensures.copied) grown.1))
