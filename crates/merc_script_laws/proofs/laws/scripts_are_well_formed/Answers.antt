use Rattle.merc_script_laws.proofs.laws.scripts_are_well_formed.Goals as goal
use Rattle.merc_script_laws.proofs.AcceptedScripts.{scripts_formed}

abbrev pub returns : goal.returns
returns c = scripts_formed
