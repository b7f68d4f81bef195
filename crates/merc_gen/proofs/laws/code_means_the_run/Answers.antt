use Rattle.merc_gen.proofs.laws.code_means_the_run.Goals as goal
use Rattle.merc_gen.proofs.Alone.{code-runs}

abbrev pub returns : goal.returns
returns c = code-runs
