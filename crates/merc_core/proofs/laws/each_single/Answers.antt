use Rattle.merc_core.proofs.laws.each_single.Goals as goal
use Rattle.merc_core.proofs.Single.{each_single}

pub returns : goal.returns
returns c = each_single
