use Rattle.merc_gen.proofs.laws.generated_code_means_the_run.Goals as goal
use Rattle.merc_gen.proofs.Alone.{same-code-runs}

abbrev pub returns : goal.returns
returns c = same-code-runs
