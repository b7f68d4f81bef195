use Rattle.merc_core.proofs.laws.each_stands.Goals as goal
use Rattle.merc_core.proofs.Names.{all_stand}

pub returns : goal.returns
returns c = all_stand
