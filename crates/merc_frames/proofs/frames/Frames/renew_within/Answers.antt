use Rattle.std.proofs.Common.{false}
use Rattle.merc_frames.specs.Held.{Passes}
use Rattle.merc_frames.proofs.Built.{built_passed_each, built_within}
use Rattle.merc_frames.proofs.Entering.{within_fine, within_kept, within_view}
use Rattle.merc_frames.proofs.frames.Frames.renew_within.Goals as goal

abbrev pub invariant_of-self : goal.invariant_of-self
invariant_of-self c =
    let built = built_within _ _ _ _ _ _ c.args.inputs.now c.deref_mut.ensures.value c.pass_within.ensures.long c.self.inside.slots.ok.0 c.self.invariant.0.within c.pass_within.ensures.below
    c.pass_within.ensures.passed in
    (within_fine _ _ _ _ _ _ _ c.self.invariant.0 _ built, c.self.invariant.1)

abbrev pub returns-clause-stacks : goal.returns-clause-stacks
returns-clause-stacks c =
    let built = built_within _ _ _ _ _ _ c.args.inputs.now c.deref_mut.ensures.value c.pass_within.ensures.long c.self.inside.slots.ok.0 c.self.invariant.0.within c.pass_within.ensures.below
    c.pass_within.ensures.passed in
    rw (← c.self.view_is) (within_view _ _ _ _ _ _ _ c.self.invariant.0 _ built)

abbrev pub returns-clause-held : goal.returns-clause-held
returns-clause-held c =
    let built = built_within _ _ _ _ _ _ c.args.inputs.now c.deref_mut.ensures.value c.pass_within.ensures.long c.self.inside.slots.ok.0 c.self.invariant.0.within c.pass_within.ensures.below
    c.pass_within.ensures.passed in
    rw (← c.self.view_is) (λ may_hold cells none held. (
      built_passed_each (Passes may_hold cells) none _ _ _ _ _ _ _ _ c.args.inputs.now false held.0 c.deref_mut.ensures.value c.pass_within.ensures.long c.self.inside.slots.ok.0
          c.pass_within.ensures.below c.pass_within.ensures.above c.pass_within.ensures.passed,
      within_kept _ _ _ _ _ _ _ c.self.invariant.0 _ built (Passes may_hold) cells held.1,
    ))
