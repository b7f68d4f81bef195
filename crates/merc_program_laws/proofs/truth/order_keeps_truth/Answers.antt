use Rattle.merc_program_laws.proofs.truth.order_keeps_truth.Goals as goal
use Rattle.merc_program_laws.proofs.OrderTruth.{calls_keep, bodies_keep, queries_keep}

pub returns-clause-calls : goal.returns-clause-calls
returns-clause-calls c = calls_keep

pub returns-clause-bodies : goal.returns-clause-bodies
returns-clause-bodies c = bodies_keep

pub returns-clause-queries : goal.returns-clause-queries
returns-clause-queries c = queries_keep
