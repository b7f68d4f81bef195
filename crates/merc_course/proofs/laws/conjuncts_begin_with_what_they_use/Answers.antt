use Rattle.merc_course.proofs.laws.conjuncts_begin_with_what_they_use.Goals as goal
use Rattle.merc_course.proofs.Beginnings.{beginning}

abbrev pub returns : goal.returns
returns c = beginning
