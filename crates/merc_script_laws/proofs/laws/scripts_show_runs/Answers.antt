use Rattle.merc_script_laws.proofs.laws.scripts_show_runs.Goals as goal
use Rattle.merc_script_laws.proofs.AcceptedScripts.{scripts_show}

abbrev pub returns : goal.returns
returns c = scripts_show
