use Rattle.merc_frames.proofs.Entering.{renewed_within}
use Rattle.merc_frames.proofs.frames.Frames.renew.Goals as goal

pub returns-then-is_renewed_within-clause-ok : goal.returns-then-is_renewed_within-clause-ok
returns-then-is_renewed_within-clause-ok c =
    let within = c.if-is_renewed_within.true in
    renewed_within _ _ _ _ _ (c.is_renewed_within.ensures.size within) (c.is_renewed_within.ensures.left within) c.renew_within.ensures.stacks
