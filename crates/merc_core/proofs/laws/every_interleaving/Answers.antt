use Rattle.merc_core.proofs.laws.every_interleaving.Goals as goal
use Rattle.merc_core.proofs.Losses.{every_interleaving}

pub returns : goal.returns
returns c = every_interleaving
