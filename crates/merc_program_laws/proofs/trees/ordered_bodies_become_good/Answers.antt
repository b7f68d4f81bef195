use Rattle.merc_program_laws.proofs.trees.ordered_bodies_become_good.Goals as goal
use Rattle.merc_program_laws.proofs.Bodies.{procedure_becomes_good, query_becomes_good}

pub returns-clause-procedure : goal.returns-clause-procedure
returns-clause-procedure c = procedure_becomes_good

pub returns-clause-query : goal.returns-clause-query
returns-clause-query c = query_becomes_good
