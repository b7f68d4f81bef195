use Rattle.merc_order_laws.proofs.fitting.bodies_are_there.Goals as goal
use Rattle.merc_order_laws.proofs.AskedBodies.{asked_body_is_there}
use Rattle.merc_order_laws.proofs.ModesFitting.{module_modes_fit}
use Rattle.merc_order_laws.proofs.ProcedureHeads.{bodies_are_there}

pub returns-clause-modes : goal.returns-clause-modes
returns-clause-modes c = module_modes_fit

pub returns-clause-procedures : goal.returns-clause-procedures
returns-clause-procedures c = bodies_are_there

pub returns-clause-asked : goal.returns-clause-asked
returns-clause-asked c = asked_body_is_there
