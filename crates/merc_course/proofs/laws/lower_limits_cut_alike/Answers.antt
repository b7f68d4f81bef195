use Rattle.merc_course.proofs.laws.lower_limits_cut_alike.Goals as goal
use Rattle.merc_course.proofs.Alike.{cut-again}

abbrev pub returns : goal.returns
returns c = cut-again
