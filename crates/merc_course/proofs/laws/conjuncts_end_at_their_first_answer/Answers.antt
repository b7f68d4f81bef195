use Rattle.merc_course.proofs.laws.conjuncts_end_at_their_first_answer.Goals as goal
use Rattle.merc_course.proofs.Alike.{closed-first}

abbrev pub returns : goal.returns
returns c = closed-first
