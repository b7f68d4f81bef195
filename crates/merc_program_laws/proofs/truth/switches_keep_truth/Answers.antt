use Rattle.merc_program_laws.proofs.truth.switches_keep_truth.Goals as goal
use Rattle.merc_program_laws.proofs.SwitchTruth.{switched_calls_keep, switched_goals_keep}

pub returns-clause-calls : goal.returns-clause-calls
returns-clause-calls c = switched_calls_keep

pub returns-clause-goals : goal.returns-clause-goals
returns-clause-goals c = switched_goals_keep
