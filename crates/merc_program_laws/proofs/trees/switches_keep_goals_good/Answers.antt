use Rattle.merc_switch.proofs.FoundVariables.{in_found}
use Rattle.merc_program_laws.proofs.trees.switches_keep_goals_good.Goals as goal
use Rattle.merc_program_laws.proofs.Regrouped.{found_ends, found_outputs}
use Rattle.merc_program_laws.proofs.FoundGood.{found_is_good}

pub returns-clause-good : goal.returns-clause-good
returns-clause-good c = found_is_good

pub returns-clause-ends : goal.returns-clause-ends
returns-clause-ends c = found_ends

pub returns-clause-outputs : goal.returns-clause-outputs
returns-clause-outputs c = found_outputs

pub returns-clause-variables : goal.returns-clause-variables
returns-clause-variables c = in_found
