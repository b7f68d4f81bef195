use Rattle.merc_program_laws.proofs.runs.accepted_goals_keep.Goals as goal
use Rattle.merc_program_laws.proofs.Accepted.{runs_answer_in_types, runs_answer_truly}
use Rattle.merc_program_laws.proofs.KeptTruth.{accepted_goals_keep_truth}

pub returns-clause-types : goal.returns-clause-types
returns-clause-types c = runs_answer_in_types

pub returns-clause-truth : goal.returns-clause-truth
returns-clause-truth c = runs_answer_truly

pub returns-clause-keeps_truth : goal.returns-clause-keeps_truth
returns-clause-keeps_truth c = accepted_goals_keep_truth
