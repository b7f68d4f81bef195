use Rattle.std.proofs.Common.{refl, ◌∙◌, ◌<◌, ◌≤◌, length, subst}
use Rattle.merc_frames.specs.Held.{Passes}
use Rattle.merc_frames.proofs.HeldLaws.{softened_kept}
use Rattle.merc_frames.proofs.Choices.{soften_fine, soften_view, soften_none}
use Rattle.merc_frames.proofs.Newest.{needs_set}
use Rattle.std.proofs.lemmas.Option.{slice_get_read}
use Rattle.merc_frames.proofs.frames.Frames.soften.Goals as goal

abbrev pub invariant_of-self : goal.invariant_of-self
invariant_of-self c =
    let within : c.args.count < length c.self.inside.choices.items = subst (λ x. c.args.count < x) (c.len.ensures ∙ c.self.inside.choices.ok.0) c.if-count-len.true in (
      soften_fine _ _ _ _ _ _ _ _ _ c.self.invariant.0 within c.index-kept.ensures refl refl refl refl,
      needs_set _ _ _ _ _ _ (slice_get_read _ _ _ _ refl within c.index-kept.ensures) refl refl refl c.self.invariant.1,
    )

abbrev pub returns-then-count-len-clause-stacks : goal.returns-then-count-len-clause-stacks
returns-then-count-len-clause-stacks c = rw (← c.self.view_is) (soften_view c.self.inside.slots.items c.self.inside.saved.items c.self.inside.choices.items c.self.inside.base c.self.inside.size c.self.inside.height c.args.count _ refl)

abbrev pub returns-then-count-len-clause-held : goal.returns-then-count-len-clause-held
returns-then-count-len-clause-held c = rw (← c.self.view_is)
    (λ may_hold cells held. (held.0, softened_kept (Passes may_hold) cells c.self.inside.slots.items c.self.inside.choices.items c.args.count _ refl held.1))

abbrev pub returns-else-count-len-clause-stacks : goal.returns-else-count-len-clause-stacks
returns-else-count-len-clause-stacks c =
    let past : length c.self.inside.choices.items ≤ c.args.count = subst (λ x. x ≤ c.args.count) (c.len.ensures ∙ c.self.inside.choices.ok.0) c.if-count-len.false in
    rw (← c.self.view_is) (soften_none c.self.inside.slots.items c.self.inside.saved.items c.self.inside.choices.items c.self.inside.base c.self.inside.size c.self.inside.height c.args.count past)

abbrev pub returns-else-count-len-clause-held : goal.returns-else-count-len-clause-held
returns-else-count-len-clause-held c = rw (← c.self.view_is) (λ may_hold cells held. held)
