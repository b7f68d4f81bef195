use Rattle.merc_gen.proofs.laws.generated_code_means_the_course.Goals as goal
use Rattle.merc_gen.proofs.Theorem.{same-code-follows}

abbrev pub returns : goal.returns
returns c = same-code-follows
