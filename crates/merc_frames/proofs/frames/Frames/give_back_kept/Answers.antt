use Rattle.std.proofs.Common.{inl, ◌-◌, ◌≤◌, length, sym, ap, ◌∙◌, subst, arith}
use Rattle.merc_frames.specs.Held.{FramesData, Passes}
use Rattle.merc_frames.specs.View.{data_of}
use Rattle.merc_frames.proofs.AllLaws.{grown_each}
use Rattle.merc_frames.proofs.Built.{built_delivered, built_given_each, built_moved, copied_each}
use Rattle.merc_frames.proofs.HeldLaws.{Holding}
use Rattle.merc_frames.proofs.Moving.{on_err}
use Rattle.merc_frames.proofs.Newest.{count_read, low_read, low_under}
use Rattle.merc_frames.proofs.Returning.{caller_is, caller_saved, parent_inside, source_inside, copy_fine, copy_kept, copy_gives}
use Rattle.merc_frames.proofs.RoomLaws.{caller_slots, own_slots}
use Rattle.merc_frames.proofs.frames.Frames.give_back_kept.Goals as goal

abbrev pub returns-in_err-make_room-clause-err : goal.returns-in_err-make_room-clause-err
returns-in_err-make_room-clause-err c = on_err c.from_residual.result _ (ap (λ x. data_of x c.self.inside.saved.items c.self.inside.choices.items c.self.inside.base c.self.inside.size c.self.inside.height) c.in_err-make_room.ensures.err ∙ c.self.view_is)

abbrev pub returns-in_err-make_room-clause-held : goal.returns-in_err-make_room-clause-held
returns-in_err-make_room-clause-held c = rw (← c.self.view_is) (λ may_hold cells none held. subst (λ x. Holding (Passes may_hold) cells x c.self.inside.choices.items) (sym c.in_err-make_room.ensures.err) held)

abbrev pub copy_frame-requires-clause-source : goal.copy_frame-requires-clause-source
copy_frame-requires-clause-source c =
    let used = caller_saved c.self.inside.slots.items c.self.inside.saved.items c.self.inside.height _ (ap (λ (f : FramesData). f.stacks.callers) c.self.view_is) c.requires.there in
    let frame = caller_is _ _ _ _ _ _ _ c.self.invariant.0 used c.index-caller.ensures in
    source_inside _ _ _ _ _ _ _ c.self.invariant.0 used frame _ c.in_ok-make_room.ensures.grows

abbrev pub deliver-requires-clause-own : goal.deliver-requires-clause-own
deliver-requires-clause-own c = own_slots _ _ _ _ _ _ c.self.invariant.0 _ (ap (λ (f : FramesData). f.stacks) c.self.view_is) c.args.own.now c.requires.own

abbrev pub deliver-requires-clause-apart : goal.deliver-requires-clause-apart
deliver-requires-clause-apart c = inl (omega arith)

abbrev pub deliver-requires-clause-outs : goal.deliver-requires-clause-outs
deliver-requires-clause-outs c =
    let used = caller_saved c.self.inside.slots.items c.self.inside.saved.items c.self.inside.height _ (ap (λ (f : FramesData). f.stacks.callers) c.self.view_is) c.requires.there in
    let frame = caller_is _ _ _ _ _ _ _ c.self.invariant.0 used c.index-caller.ensures in
    caller_slots _ _ _ _ _ _ c.self.invariant.0 _ (ap (λ (f : FramesData). f.stacks) c.self.view_is) _ c.args.outs.now used frame c.requires.outs

abbrev pub caller_end-requires-clause-callers : goal.caller_end-requires-clause-callers
caller_end-requires-clause-callers c =
    let used = caller_saved c.self.inside.slots.items c.self.inside.saved.items c.self.inside.height _ (ap (λ (f : FramesData). f.stacks.callers) c.self.view_is) c.requires.there in
    let frame = caller_is _ _ _ _ _ _ _ c.self.invariant.0 used c.index-caller.ensures in
    subst (λ x. c.index-caller.result.now.parent ≤ length x) (sym c.deref.ensures.value) (parent_inside _ _ _ _ _ _ _ c.self.invariant.0 used frame)

abbrev pub copy_frame-requires-2-clause-target : goal.copy_frame-requires-2-clause-target
copy_frame-requires-2-clause-target c =
    let used = caller_saved c.self.inside.slots.items c.self.inside.saved.items c.self.inside.height _ (ap (λ (f : FramesData). f.stacks.callers) c.self.view_is) c.requires.there in
    let frame = caller_is _ _ _ _ _ _ _ c.self.invariant.0 used c.index-caller.ensures in
    let built = built_delivered _ _ _ _ _ _ _ c.self.invariant.0 c.in_ok-make_room.ensures.grows _ _ (omega arith) _ _ _ _ c.args.own.now c.args.outs.now _ (omega arith)
    (c.self.invariant.0.tops (c.self.inside.height - 1) _ frame) c.copy_frame.ensures.long c.copy_frame.ensures.below c.copy_frame.ensures.copied
    c.deref_mut.ensures.value c.deliver.ensures.long c.copy_frame.new.slots.ok.0 c.in_ok-make_room.ensures.ok c.deliver.ensures.below c.deliver.ensures.delivered in
    let low_is = low_read _ _ _ _ _ _ _ _ c.self.invariant.1 c.deref.ensures.value c.caller_end.ensures c.larger_of-low.ensures in
    let under = low_under _ _ _ _ _ _ c.self.invariant.0 c.index-caller.result.now.parent in
    let room = built.room in
    omega (arith, room, under, low_is)

abbrev pub invariant_of-self-2 : goal.invariant_of-self-2
invariant_of-self-2 c =
    let used = caller_saved c.self.inside.slots.items c.self.inside.saved.items c.self.inside.height _ (ap (λ (f : FramesData). f.stacks.callers) c.self.view_is) c.requires.there in
    let frame = caller_is _ _ _ _ _ _ _ c.self.invariant.0 used c.index-caller.ensures in
    let built = built_delivered _ _ _ _ _ _ _ c.self.invariant.0 c.in_ok-make_room.ensures.grows _ _ (omega arith) _ _ _ _ c.args.own.now c.args.outs.now _ (omega arith)
    (c.self.invariant.0.tops (c.self.inside.height - 1) _ frame) c.copy_frame.ensures.long c.copy_frame.ensures.below c.copy_frame.ensures.copied
    c.deref_mut.ensures.value c.deliver.ensures.long c.copy_frame.new.slots.ok.0 c.in_ok-make_room.ensures.ok c.deliver.ensures.below c.deliver.ensures.delivered in
    let count_is = count_read _ _ _ _ _ c.self.invariant.1 c.larger_of-count.ensures in
    let low_is = low_read _ _ _ _ _ _ _ _ c.self.invariant.1 c.deref.ensures.value c.caller_end.ensures c.larger_of-low.ensures in
    let under = low_under _ _ _ _ _ _ c.self.invariant.0 c.index-caller.result.now.parent in
    let moved = built_moved _ _ _ _ _ _ _ built (omega (arith, low_is, under)) c.copy_frame-2.ensures.long c.copy_frame-2.ensures.below c.copy_frame-2.ensures.copied in
    (copy_fine _ _ _ _ _ _ _ c.self.invariant.0 used frame c.args.own.now c.args.outs.now _ _ _ _ moved count_is (omega (arith, low_is)) c.truncate.ensures.items, c.self.invariant.1)

abbrev pub returns-clause-ok : goal.returns-clause-ok
returns-clause-ok c =
    let used = caller_saved c.self.inside.slots.items c.self.inside.saved.items c.self.inside.height _ (ap (λ (f : FramesData). f.stacks.callers) c.self.view_is) c.requires.there in
    let frame = caller_is _ _ _ _ _ _ _ c.self.invariant.0 used c.index-caller.ensures in
    let built = built_delivered _ _ _ _ _ _ _ c.self.invariant.0 c.in_ok-make_room.ensures.grows _ _ (omega arith) _ _ _ _ c.args.own.now c.args.outs.now _ (omega arith)
    (c.self.invariant.0.tops (c.self.inside.height - 1) _ frame) c.copy_frame.ensures.long c.copy_frame.ensures.below c.copy_frame.ensures.copied
    c.deref_mut.ensures.value c.deliver.ensures.long c.copy_frame.new.slots.ok.0 c.in_ok-make_room.ensures.ok c.deliver.ensures.below c.deliver.ensures.delivered in
    let count_is = count_read _ _ _ _ _ c.self.invariant.1 c.larger_of-count.ensures in
    let low_is = low_read _ _ _ _ _ _ _ _ c.self.invariant.1 c.deref.ensures.value c.caller_end.ensures c.larger_of-low.ensures in
    let under = low_under _ _ _ _ _ _ c.self.invariant.0 c.index-caller.result.now.parent in
    let moved = built_moved _ _ _ _ _ _ _ built (omega (arith, low_is, under)) c.copy_frame-2.ensures.long c.copy_frame-2.ensures.below c.copy_frame-2.ensures.copied in
    rw (← c.self.view_is) (copy_gives _ _ _ _ _ _ _ c.self.invariant.0 used frame c.args.own.now c.args.outs.now _ _ _ _ moved count_is (omega (arith, low_is)) c.truncate.ensures.items)

abbrev pub returns-clause-held : goal.returns-clause-held
returns-clause-held c =
    let used = caller_saved c.self.inside.slots.items c.self.inside.saved.items c.self.inside.height _ (ap (λ (f : FramesData). f.stacks.callers) c.self.view_is) c.requires.there in
    let frame = caller_is _ _ _ _ _ _ _ c.self.invariant.0 used c.index-caller.ensures in
    let built = built_delivered _ _ _ _ _ _ _ c.self.invariant.0 c.in_ok-make_room.ensures.grows _ _ (omega arith) _ _ _ _ c.args.own.now c.args.outs.now _ (omega arith)
    (c.self.invariant.0.tops (c.self.inside.height - 1) _ frame) c.copy_frame.ensures.long c.copy_frame.ensures.below c.copy_frame.ensures.copied
    c.deref_mut.ensures.value c.deliver.ensures.long c.copy_frame.new.slots.ok.0 c.in_ok-make_room.ensures.ok c.deliver.ensures.below c.deliver.ensures.delivered in
    let count_is = count_read _ _ _ _ _ c.self.invariant.1 c.larger_of-count.ensures in
    let low_is = low_read _ _ _ _ _ _ _ _ c.self.invariant.1 c.deref.ensures.value c.caller_end.ensures c.larger_of-low.ensures in
    let under = low_under _ _ _ _ _ _ c.self.invariant.0 c.index-caller.result.now.parent in
    let moved = built_moved _ _ _ _ _ _ _ built (omega (arith, low_is, under)) c.copy_frame-2.ensures.long c.copy_frame-2.ensures.below c.copy_frame-2.ensures.copied in
    rw (← c.self.view_is) (λ may_hold cells none held.
    (let P = Passes may_hold cells in
    let grown = grown_each P none _ _ c.in_ok-make_room.ensures.grows held.0 in
    let copied = copied_each P _ _ _ _ _ grown c.copy_frame.ensures.below c.copy_frame.ensures.above c.copy_frame.ensures.copied in
    let given = built_given_each P none _ _ _ _ _ _ _ _ c.args.own.now c.args.outs.now copied c.deref_mut.ensures.value c.deliver.ensures.long c.copy_frame.new.slots.ok.0
    c.deliver.ensures.below c.deliver.ensures.above c.deliver.ensures.delivered in (
      copied_each P _ _ _ _ _ given c.copy_frame-2.ensures.below c.copy_frame-2.ensures.above c.copy_frame-2.ensures.copied,
      copy_kept _ _ _ _ _ _ _ c.self.invariant.0 used frame c.args.own.now c.args.outs.now _ _ _ _ moved count_is (omega (arith, low_is)) c.truncate.ensures.items (Passes may_hold) cells held.1,
    )))
