use Rattle.merc_script_laws.proofs.laws.goals_stand_at_scripts.Goals as goal
use Rattle.merc_script_laws.proofs.AcceptedScripts.{goals_stand}

abbrev pub returns : goal.returns
returns c = goals_stand
