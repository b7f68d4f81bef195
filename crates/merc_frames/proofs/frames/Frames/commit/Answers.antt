use Rattle.std.proofs.Common.{ap, ◌∙◌, ◌≤◌, length, sym, subst}
use Rattle.merc_frames.specs.Held.{AreKept, Passes}
use Rattle.merc_frames.specs.View.{tops_of, view_of}
use Rattle.merc_frames.proofs.Choices.{commit_fine, commit_view, commit_none}
use Rattle.merc_frames.proofs.HeldLaws.{oldest_kept}
use Rattle.merc_frames.proofs.Newest.{needs_read}
use Rattle.merc_frames.proofs.frames.Frames.commit.Goals as goal

abbrev pub invariant_of-self : goal.invariant_of-self
invariant_of-self c = (
  rw (c.truncate.ensures.items) (commit_fine _ _ _ _ _ _ _ c.self.invariant.0),
  needs_read _ _ _ _ _ c.kept_saved-self-inside.ensures c.deref.ensures.value c.kept_end-self-inside.ensures c.deref-then-count-len.ensures.value,
)

abbrev pub kept_end-self-inside-requires : goal.kept_end-self-inside-requires
kept_end-self-inside-requires c = rw (c.deref-then-count-len.ensures.value ∙ c.truncate.ensures.items) (λ i k e. ((commit_fine _ _ _ _ _ _ c.args.count c.self.invariant.0).kept i k e).top)

abbrev pub returns-then-count-len-clause-stacks : goal.returns-then-count-len-clause-stacks
returns-then-count-len-clause-stacks c = rw (← c.self.view_is)
    (c.close_gap.ensures.stacks
    ∙ ap (λ x. view_of c.self.inside.slots.items c.self.inside.saved.items x c.self.inside.base c.self.inside.size c.self.inside.height) c.truncate.ensures.items
    ∙ commit_view c.self.inside.slots.items c.self.inside.saved.items c.self.inside.choices.items c.self.inside.base c.self.inside.size c.self.inside.height c.args.count)

abbrev pub returns-then-count-len-clause-held : goal.returns-then-count-len-clause-held
returns-then-count-len-clause-held c = rw (← c.self.view_is) (λ may_hold cells held. c.close_gap.ensures.held may_hold cells (
  held.0,
  subst (λ x. AreKept (Passes may_hold) cells c.self.inside.slots.items (tops_of x)) (sym c.truncate.ensures.items)
      (oldest_kept (Passes may_hold) cells c.self.inside.slots.items c.self.inside.choices.items c.args.count held.1),
))

abbrev pub returns-else-count-len-clause-stacks : goal.returns-else-count-len-clause-stacks
returns-else-count-len-clause-stacks c =
    let past : length c.self.inside.choices.items ≤ c.args.count = subst (λ x. x ≤ c.args.count) (c.len.ensures ∙ c.self.inside.choices.ok.0) c.if-count-len.false in
    rw (← c.self.view_is) (commit_none c.self.inside.slots.items c.self.inside.saved.items c.self.inside.choices.items c.self.inside.base c.self.inside.size c.self.inside.height c.args.count past)

abbrev pub returns-else-count-len-clause-held : goal.returns-else-count-len-clause-held
returns-else-count-len-clause-held c = rw (← c.self.view_is) (λ may_hold cells held. held)
