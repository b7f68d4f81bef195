use Rattle.merc_branch_laws.proofs.laws.goals_keep_to_scripts.Goals as goal
use Rattle.merc_branch_laws.proofs.Accepted.{goals_keep}

abbrev pub returns : goal.returns
returns c = goals_keep
