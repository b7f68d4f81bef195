use Rattle.merc_order_laws.proofs.ordered_goals.is_made_of_the_written.Goals as goal
use Rattle.merc_order_laws.proofs.Bodies.{procedure_is_made_from, query_is_made_from}
use Rattle.merc_order_laws.proofs.SpeltWritten.{spelt_is_made_of}

pub returns-clause-spelt : goal.returns-clause-spelt
returns-clause-spelt c = spelt_is_made_of

pub returns-clause-procedures : goal.returns-clause-procedures
returns-clause-procedures c = procedure_is_made_from

pub returns-clause-queries : goal.returns-clause-queries
returns-clause-queries c = query_is_made_from
