use Rattle.merc_core.proofs.laws.always_ends.Goals as goal
use Rattle.merc_core.proofs.Measure.{bounded}

pub returns : goal.returns
returns c = bounded
