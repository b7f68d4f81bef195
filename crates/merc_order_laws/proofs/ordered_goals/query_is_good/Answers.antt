use Rattle.merc_order_laws.proofs.ordered_goals.query_is_good.Goals as goal
use Rattle.merc_order_laws.proofs.Bodies.{query_is_good, query_binds_answers}

pub returns-clause-good : goal.returns-clause-good
returns-clause-good c = query_is_good

pub returns-clause-binds_answers : goal.returns-clause-binds_answers
returns-clause-binds_answers c = query_binds_answers
