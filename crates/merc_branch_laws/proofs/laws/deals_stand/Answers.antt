use Rattle.merc_branch_laws.proofs.laws.deals_stand.Goals as goal
use Rattle.merc_branch_laws.proofs.Faces.{deals-stand}

abbrev pub returns : goal.returns
returns c = deals-stand
