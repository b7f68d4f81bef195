use Rattle.std.proofs.Common.{sym, ap, ◌∙◌}
use Rattle.merc_frames.specs.Held.{FramesData, Passes}
use Rattle.merc_frames.proofs.Choices.{back_fine, back_held, dead_fine, dead_held, back_choices, end_inside}
use Rattle.merc_frames.proofs.Newest.{needs_read}
use Rattle.merc_frames.proofs.frames.Frames.back.Goals as goal

abbrev pub cut_above-requires : goal.cut_above-requires
cut_above-requires c = end_inside _ _ _ _ _ _ _ _ c.self.invariant.0 c.in-Some.ensures.items

abbrev pub kept_end-self-inside-requires : goal.kept_end-self-inside-requires
kept_end-self-inside-requires c = rw (c.deref-in-Some.ensures.value) (λ i k e. ((dead_fine _ _ _ _ _ _ _ _ c.self.invariant.0 c.in-Some.ensures.items).kept i k e).top)

abbrev pub invariant_of-self-then-kept : goal.invariant_of-self-then-kept
invariant_of-self-then-kept c = (
  back_fine _ _ _ _ _ _ _ _ c.self.invariant.0 c.in-Some.ensures.items _ _ c.cut_above.ensures _ c.truncate.ensures.items,
  needs_read _ _ _ _ _ c.kept_saved-self-inside.ensures c.deref.ensures.value c.kept_end-self-inside.ensures c.deref-in-Some.ensures.value,
)

abbrev pub invariant_of-self-else-kept : goal.invariant_of-self-else-kept
invariant_of-self-else-kept c = (
  dead_fine _ _ _ _ _ _ _ _ c.self.invariant.0 c.in-Some.ensures.items,
  needs_read _ _ _ _ _ c.kept_saved-self-inside.ensures c.deref.ensures.value c.kept_end-self-inside.ensures c.deref-in-Some.ensures.value,
)

abbrev pub returns-then-kept-clause-stacks : goal.returns-then-kept-clause-stacks
returns-then-kept-clause-stacks c = ap (λ (f : FramesData). f.stacks.choices) (sym c.self.view_is)
    ∙ back_choices _ _ _ _ _ _ _ _ c.self.invariant.0 c.in-Some.ensures.items _ _ c.cut_above.ensures c.if-kept.true _ c.truncate.ensures.items

abbrev pub returns-then-kept-clause-held : goal.returns-then-kept-clause-held
returns-then-kept-clause-held c = rw (← c.self.view_is)
    (λ may_hold held. back_held _ _ _ _ _ _ _ _ c.self.invariant.0 c.in-Some.ensures.items (Passes may_hold) c.args.cells c.if-kept.true _ c.cut_above.ensures held)

abbrev pub returns-else-kept-clause-held : goal.returns-else-kept-clause-held
returns-else-kept-clause-held c = rw (← c.self.view_is) (λ may_hold held. dead_held _ _ _ _ _ _ _ _ c.self.invariant.0 c.in-Some.ensures.items (Passes may_hold) c.args.cells held)
