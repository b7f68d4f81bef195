use Rattle.merc_meaning.proofs.laws.values_are_told_apart.Goals as goal
use Rattle.merc_meaning.proofs.ValueLaws.{same-decides}

abbrev pub returns : goal.returns
returns c = same-decides
