use Rattle.merc_core.proofs.laws.never_stuck.Goals as goal
use Rattle.merc_core.proofs.Dues.{never_stuck}

pub returns : goal.returns
returns c = never_stuck
