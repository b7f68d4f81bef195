use Rattle.merc_program_laws.proofs.trees.orders_are_bodies.Goals as goal
use Rattle.merc_program_laws.proofs.OrderedGoals.{procedure_is_ordered, query_is_ordered}

pub returns-clause-procedure : goal.returns-clause-procedure
returns-clause-procedure c = procedure_is_ordered

pub returns-clause-query : goal.returns-clause-query
returns-clause-query c = query_is_ordered
