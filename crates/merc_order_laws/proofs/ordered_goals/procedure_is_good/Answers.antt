use Rattle.merc_order_laws.proofs.ordered_goals.procedure_is_good.Goals as goal
use Rattle.merc_order_laws.proofs.Bodies.{procedure_is_good, procedure_binds_heads}

pub returns-clause-good : goal.returns-clause-good
returns-clause-good c = procedure_is_good

pub returns-clause-binds_heads : goal.returns-clause-binds_heads
returns-clause-binds_heads c = procedure_binds_heads
