use Rattle.std.proofs.Common.{inr, ap, ◌-◌, ◌<◌, length, arith}
use Rattle.merc_frames.specs.Held.{FramesData, Passes}
use Rattle.merc_frames.specs.View.{newest, kept_saved}
use Rattle.merc_frames.proofs.Built.{built_given_each, built_here}
use Rattle.merc_frames.proofs.Returning.{caller_is, place_fine, place_kept, place_gives}
use Rattle.merc_frames.proofs.RoomLaws.{caller_slots, own_slots}
use Rattle.merc_frames.proofs.frames.Frames.give_back.Goals as goal

abbrev pub deliver-requires-clause-own : goal.deliver-requires-clause-own
deliver-requires-clause-own c = own_slots _ _ _ _ _ _ c.self.invariant.0 _ (ap (λ (f : FramesData). f.stacks) c.self.view_is) c.args.own.now c.requires.own

abbrev pub deliver-requires-clause-target : goal.deliver-requires-clause-target
deliver-requires-clause-target c =
    let count_is = c.self.invariant.1.frames in
    let above = c.if-self.true in
    let free : kept_saved (newest c.self.inside.choices.items) < c.self.inside.height = omega (arith, count_is, above) in
    let used : 0 < c.self.inside.height = omega (arith, free) in
    let frame = caller_is _ _ _ _ _ _ _ c.self.invariant.0 used c.index-caller.ensures in
    let within = c.self.invariant.0.within in
    let top = c.self.invariant.0.tops (c.self.inside.height - 1) _ frame in
    let long = ap length c.deref_mut.ensures.value in
    omega (arith, within, top, long)

abbrev pub deliver-requires-clause-apart : goal.deliver-requires-clause-apart
deliver-requires-clause-apart c =
    let count_is = c.self.invariant.1.frames in
    let above = c.if-self.true in
    let free : kept_saved (newest c.self.inside.choices.items) < c.self.inside.height = omega (arith, count_is, above) in
    let used : 0 < c.self.inside.height = omega (arith, free) in
    let frame = caller_is _ _ _ _ _ _ _ c.self.invariant.0 used c.index-caller.ensures in
    inr (c.self.invariant.0.tops (c.self.inside.height - 1) _ frame)

abbrev pub deliver-requires-clause-outs : goal.deliver-requires-clause-outs
deliver-requires-clause-outs c =
    let count_is = c.self.invariant.1.frames in
    let above = c.if-self.true in
    let free : kept_saved (newest c.self.inside.choices.items) < c.self.inside.height = omega (arith, count_is, above) in
    let used : 0 < c.self.inside.height = omega (arith, free) in
    let frame = caller_is _ _ _ _ _ _ _ c.self.invariant.0 used c.index-caller.ensures in
    caller_slots _ _ _ _ _ _ c.self.invariant.0 _ (ap (λ (f : FramesData). f.stacks) c.self.view_is) _ c.args.outs.now used frame c.requires.outs

abbrev pub invariant_of-self : goal.invariant_of-self
invariant_of-self c =
    let count_is = c.self.invariant.1.frames in
    let above = c.if-self.true in
    let free : kept_saved (newest c.self.inside.choices.items) < c.self.inside.height = omega (arith, count_is, above) in
    let used : 0 < c.self.inside.height = omega (arith, free) in
    let frame = caller_is _ _ _ _ _ _ _ c.self.invariant.0 used c.index-caller.ensures in
    let within = c.self.invariant.0.within in
    let top = c.self.invariant.0.tops (c.self.inside.height - 1) _ frame in
    let built = built_here _ _ _ _ _ _ _ _ c.args.own.now c.args.outs.now c.deref_mut.ensures.value c.deliver.ensures.long c.self.inside.slots.ok.0 (omega (arith, within, top)) c.deliver.ensures.below
    c.deliver.ensures.delivered in
    (place_fine _ _ _ _ _ _ _ c.self.invariant.0 used frame c.args.own.now c.args.outs.now _ built free _ c.truncate.ensures.items, c.self.invariant.1)

abbrev pub returns-then-self-clause-ok : goal.returns-then-self-clause-ok
returns-then-self-clause-ok c =
    let count_is = c.self.invariant.1.frames in
    let above = c.if-self.true in
    let free : kept_saved (newest c.self.inside.choices.items) < c.self.inside.height = omega (arith, count_is, above) in
    let used : 0 < c.self.inside.height = omega (arith, free) in
    let frame = caller_is _ _ _ _ _ _ _ c.self.invariant.0 used c.index-caller.ensures in
    let within = c.self.invariant.0.within in
    let top = c.self.invariant.0.tops (c.self.inside.height - 1) _ frame in
    let built = built_here _ _ _ _ _ _ _ _ c.args.own.now c.args.outs.now c.deref_mut.ensures.value c.deliver.ensures.long c.self.inside.slots.ok.0 (omega (arith, within, top)) c.deliver.ensures.below
    c.deliver.ensures.delivered in
    rw (← c.self.view_is) (place_gives _ _ _ _ _ _ _ c.self.invariant.0 used frame c.args.own.now c.args.outs.now _ built free _ c.truncate.ensures.items)

abbrev pub returns-then-self-clause-held : goal.returns-then-self-clause-held
returns-then-self-clause-held c =
    let count_is = c.self.invariant.1.frames in
    let above = c.if-self.true in
    let free : kept_saved (newest c.self.inside.choices.items) < c.self.inside.height = omega (arith, count_is, above) in
    let used : 0 < c.self.inside.height = omega (arith, free) in
    let frame = caller_is _ _ _ _ _ _ _ c.self.invariant.0 used c.index-caller.ensures in
    let within = c.self.invariant.0.within in
    let top = c.self.invariant.0.tops (c.self.inside.height - 1) _ frame in
    let built = built_here _ _ _ _ _ _ _ _ c.args.own.now c.args.outs.now c.deref_mut.ensures.value c.deliver.ensures.long c.self.inside.slots.ok.0 (omega (arith, within, top)) c.deliver.ensures.below
    c.deliver.ensures.delivered in
    rw (← c.self.view_is) (λ may_hold cells none held. (
      built_given_each (Passes may_hold cells) none _ _ _ _ _ _ _ _ c.args.own.now c.args.outs.now held.0 c.deref_mut.ensures.value c.deliver.ensures.long c.self.inside.slots.ok.0
          c.deliver.ensures.below c.deliver.ensures.above c.deliver.ensures.delivered,
      place_kept _ _ _ _ _ _ _ c.self.invariant.0 used frame c.args.own.now c.args.outs.now _ built free _ c.truncate.ensures.items (Passes may_hold) cells held.1,
    ))
