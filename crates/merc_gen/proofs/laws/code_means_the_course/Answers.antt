use Rattle.merc_gen.proofs.laws.code_means_the_course.Goals as goal
use Rattle.merc_gen.proofs.Theorem.{code-follows}

abbrev pub returns : goal.returns
returns c = code-follows
