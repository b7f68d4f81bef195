use Rattle.merc_last_calls.proofs.laws.moves_are_lighter.Goals as goal
use Rattle.merc_last_calls.proofs.Weight.{falls_lean}

abbrev pub returns : goal.returns
returns c = falls_lean
