use Rattle.merc_core.proofs.laws.every_loss.Goals as goal
use Rattle.merc_core.proofs.Losses.{every_loss}

pub returns : goal.returns
returns c = every_loss
