use Rattle.merc_core.proofs.laws.each_carries.Goals as goal
use Rattle.merc_core.proofs.Carrying.{each_carries}

pub returns : goal.returns
returns c = each_carries
