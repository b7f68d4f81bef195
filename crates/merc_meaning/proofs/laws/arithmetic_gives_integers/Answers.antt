use Rattle.merc_meaning.proofs.laws.arithmetic_gives_integers.Goals as goal
use Rattle.merc_meaning.proofs.ArithmeticLaws.{arithmetic-fits}

abbrev pub returns : goal.returns
returns c = arithmetic-fits
