use Rattle.merc_grow.proofs.laws.grown_modules_are_files.Goals as goal
use Rattle.merc_grow.proofs.GrownLemmas.{grown_fits, grown_is_ascii}

abbrev pub returns-clause-fits : goal.returns-clause-fits
returns-clause-fits c = grown_fits

abbrev pub returns-clause-ascii : goal.returns-clause-ascii
returns-clause-ascii c = grown_is_ascii
