use Rattle.merc_program_laws.proofs.trees.modules_become_good.Goals as goal
use Rattle.merc_program_laws.proofs.GoodTrees.{program_becomes_good}

pub returns : goal.returns
returns c = program_becomes_good
