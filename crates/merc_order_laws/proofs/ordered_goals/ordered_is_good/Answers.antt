use Rattle.merc_order_laws.proofs.ordered_goals.ordered_is_good.Goals as goal
use Rattle.merc_order_laws.proofs.Ordering.{ordered_good, ordered_variables, ordered_ends}

pub returns-clause-good : goal.returns-clause-good
returns-clause-good c = ordered_good

pub returns-clause-variables : goal.returns-clause-variables
returns-clause-variables c = ordered_variables

pub returns-clause-ends : goal.returns-clause-ends
returns-clause-ends c = ordered_ends
