use Rattle.merc_program_laws.proofs.runs.accepted_calls_keep.Goals as goal
use Rattle.merc_program_laws.proofs.Accepted.{calls_answer_in_types, calls_answer_truly, calls_keep_to_categories}
use Rattle.merc_program_laws.proofs.KeptTruth.{accepted_calls_keep_truth}

pub returns-clause-categories : goal.returns-clause-categories
returns-clause-categories c = calls_keep_to_categories

pub returns-clause-types : goal.returns-clause-types
returns-clause-types c = calls_answer_in_types

pub returns-clause-truth : goal.returns-clause-truth
returns-clause-truth c = calls_answer_truly

pub returns-clause-keeps_truth : goal.returns-clause-keeps_truth
returns-clause-keeps_truth c = accepted_calls_keep_truth
