use Rattle.merc_grading.proofs.laws.folds_either_way.Goals as goal
use Rattle.merc_grading.proofs.Folding.{left_is}

abbrev pub returns : goal.returns
returns c = left_is
