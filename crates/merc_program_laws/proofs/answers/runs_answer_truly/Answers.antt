use Rattle.merc_program_laws.proofs.answers.runs_answer_truly.Goals as goal
use Rattle.merc_program_laws.proofs.RunLaw.{whole_answers_law, run_answers_law, run_others_law}

pub returns-clause-whole : goal.returns-clause-whole
returns-clause-whole c = whole_answers_law

pub returns-clause-answers : goal.returns-clause-answers
returns-clause-answers c = run_answers_law

pub returns-clause-others : goal.returns-clause-others
returns-clause-others c = run_others_law
