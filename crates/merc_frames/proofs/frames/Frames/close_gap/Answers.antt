use Rattle.std.proofs.Common.{ap, ◌∙◌}
use Rattle.merc_frames.specs.Held.{FramesData, Passes}
use Rattle.merc_frames.proofs.Built.{copied_each}
use Rattle.merc_frames.proofs.Newest.{closed_fine, closed_kept, closed_view, count_read, low_read}
use Rattle.merc_frames.proofs.frames.Frames.close_gap.Goals as goal

abbrev pub invariant_of-self : goal.invariant_of-self
invariant_of-self c =
    let count_is = count_read _ _ _ _ _ c.self.invariant.1 c.larger_of-count.ensures in
    let end_is = low_read _ _ _ _ _ _ _ _ c.self.invariant.1 c.deref.ensures.value c.caller_end.ensures c.larger_of-end.ensures in
    (closed_fine _ _ _ _ _ _ _ _ c.self.invariant.0 _ _ count_is end_is c.truncate.ensures.items c.copy_frame.ensures.below c.copy_frame.ensures.long, c.self.invariant.1)

abbrev pub returns-then-self-end-clause-stacks : goal.returns-then-self-end-clause-stacks
returns-then-self-end-clause-stacks c =
    let count_is = count_read _ _ _ _ _ c.self.invariant.1 c.larger_of-count.ensures in
    let end_is = low_read _ _ _ _ _ _ _ _ c.self.invariant.1 c.deref.ensures.value c.caller_end.ensures c.larger_of-end.ensures in
    closed_view _ _ _ _ _ _ _ _ c.self.invariant.0 _ _ count_is end_is c.truncate.ensures.items c.copy_frame.ensures.below c.copy_frame.ensures.copied ∙ ap (λ (f : FramesData). f.stacks) c.self.view_is

abbrev pub returns-then-self-end-clause-held : goal.returns-then-self-end-clause-held
returns-then-self-end-clause-held c =
    let count_is = count_read _ _ _ _ _ c.self.invariant.1 c.larger_of-count.ensures in
    let end_is = low_read _ _ _ _ _ _ _ _ c.self.invariant.1 c.deref.ensures.value c.caller_end.ensures c.larger_of-end.ensures in
    rw (← c.self.view_is) (λ may_hold cells held. (
      copied_each (Passes may_hold cells) _ _ _ _ _ held.0 c.copy_frame.ensures.below c.copy_frame.ensures.above c.copy_frame.ensures.copied,
      closed_kept _ _ _ _ _ _ _ _ c.self.invariant.0 _ _ count_is end_is c.truncate.ensures.items c.copy_frame.ensures.below (Passes may_hold) cells held.1,
    ))

abbrev pub returns-else-self-end-clause-held : goal.returns-else-self-end-clause-held
returns-else-self-end-clause-held c = rw (← c.self.view_is) (λ may_hold cells held. held)
