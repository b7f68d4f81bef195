use Rattle.merc_program_laws.proofs.good_programs.accepted_texts_become_good.Goals as goal
use Rattle.merc_program_laws.proofs.AcceptedGood.{accepted_becomes_good, accepted_goal_becomes_good}

pub returns-clause-program : goal.returns-clause-program
returns-clause-program c = accepted_becomes_good

pub returns-clause-query : goal.returns-clause-query
returns-clause-query c = accepted_goal_becomes_good
