use Rattle.merc_program_laws.proofs.modules.modules_become_good.Goals as goal
use Rattle.merc_program_laws.proofs.GoodModules.{asked_becomes_good, module_becomes_good}

pub returns-clause-program : goal.returns-clause-program
returns-clause-program c = module_becomes_good

pub returns-clause-query : goal.returns-clause-query
returns-clause-query c = asked_becomes_good
