use Rattle.merc_branch_laws.proofs.laws.rights_find_cells.Goals as goal
use Rattle.merc_branch_laws.proofs.Accepted.{rights_find}

abbrev pub returns : goal.returns
returns c = rights_find
