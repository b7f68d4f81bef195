use Rattle.merc_machine_laws.proofs.laws.runs_pass_ticks.Goals as goal
use Rattle.merc_machine_laws.proofs.Running.{runs_pass}

abbrev pub returns : goal.returns
returns c = runs_pass
