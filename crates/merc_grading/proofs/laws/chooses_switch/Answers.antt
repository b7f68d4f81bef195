use Rattle.merc_grading.proofs.laws.chooses_switch.Goals as goal
use Rattle.merc_grading.proofs.Choosing.{chosen, none_chosen}

abbrev pub returns-clause-some : goal.returns-clause-some
returns-clause-some c = chosen

abbrev pub returns-clause-none : goal.returns-clause-none
returns-clause-none c = none_chosen
