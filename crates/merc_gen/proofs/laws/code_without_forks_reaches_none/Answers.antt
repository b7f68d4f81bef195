use Rattle.merc_gen.proofs.laws.code_without_forks_reaches_none.Goals as goal
use Rattle.merc_gen.proofs.Calling.{no-fork}

abbrev pub returns : goal.returns
returns c = no-fork
