use Rattle.merc_gen.proofs.laws.split_trees_are_sited.Goals as goal
use Rattle.merc_gen.proofs.Numbered.{program-sited, goal-behind-sited}

abbrev pub returns-clause-program : goal.returns-clause-program
returns-clause-program c = program-sited

abbrev pub returns-clause-goal : goal.returns-clause-goal
returns-clause-goal c = goal-behind-sited
