use Rattle.merc_par_split.proofs.laws.erases_to_graded.Goals as goal
use Rattle.merc_par_split.proofs.Erasing.{erased_split}

abbrev pub returns : goal.returns
returns c = erased_split
