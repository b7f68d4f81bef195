use Rattle.merc_order_laws.proofs.ordered_goals.spelt_is_good.Goals as goal
use Rattle.merc_order_laws.proofs.Bodies.{spelt_is_good}
use Rattle.merc_order_laws.proofs.SpeltVariables.{in_old, outputs_stay, ends_stay}

pub returns-clause-good : goal.returns-clause-good
returns-clause-good c = spelt_is_good

pub returns-clause-outputs : goal.returns-clause-outputs
returns-clause-outputs c = outputs_stay

pub returns-clause-ends : goal.returns-clause-ends
returns-clause-ends c = ends_stay

pub returns-clause-variables : goal.returns-clause-variables
returns-clause-variables c = in_old
