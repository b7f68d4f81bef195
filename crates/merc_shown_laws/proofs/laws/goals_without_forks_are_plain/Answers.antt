use Rattle.merc_shown_laws.proofs.laws.goals_without_forks_are_plain.Goals as goal
use Rattle.merc_shown_laws.proofs.PlainScripts.{scripts_are_plain}

abbrev pub returns : goal.returns
returns c = scripts_are_plain
