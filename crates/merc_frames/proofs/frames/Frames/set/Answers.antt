use Rattle.merc_frames.specs.Held.{Passes}
use Rattle.merc_frames.proofs.Entering.{set_held, set_view}
use Rattle.merc_frames.proofs.frames.Frames.set.Goals as goal

abbrev pub returns-clause-stacks : goal.returns-clause-stacks
returns-clause-stacks c = rw (← c.self.view_is)
    (set_view c.self.inside.slots.items c.self.inside.saved.items c.self.inside.choices.items c.self.inside.base c.self.inside.size c.self.inside.height c.args.number c.args.slot c.self.invariant.0)

abbrev pub returns-clause-held : goal.returns-clause-held
returns-clause-held c = rw (← c.self.view_is) (λ may_hold cells none may held. set_held (Passes may_hold) cells _ _ _ _ _ _ c.args.number c.args.slot c.self.invariant.0 may held)
