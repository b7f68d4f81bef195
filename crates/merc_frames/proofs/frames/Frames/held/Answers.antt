use Rattle.merc_frames.specs.Held.{Passes}
use Rattle.merc_frames.proofs.StackLaws.{stacks_held}
use Rattle.merc_frames.proofs.frames.Frames.held.Goals as goal

abbrev pub returns : goal.returns
returns c = rw (← c.self.view_is) (λ may_hold cells held. stacks_held (Passes may_hold) _ _ _ _ _ _ c.self.invariant.0 cells held)
