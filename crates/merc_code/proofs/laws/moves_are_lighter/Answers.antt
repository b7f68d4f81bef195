use Rattle.merc_code.proofs.laws.moves_are_lighter.Goals as goal
use Rattle.merc_code.proofs.Weight.{falls}

abbrev pub returns : goal.returns
returns c = falls
