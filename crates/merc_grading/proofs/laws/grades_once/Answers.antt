use Rattle.merc_grading.proofs.laws.grades_once.Goals as goal
use Rattle.merc_grading.proofs.Regrading.{again}

abbrev pub returns : goal.returns
returns c = again
