use Rattle.merc_program_laws.proofs.answers.calls_answer_truly.Goals as goal
use Rattle.merc_program_laws.proofs.CallLaw.{answers_law, others_law}

pub returns-clause-answers : goal.returns-clause-answers
returns-clause-answers c = answers_law

pub returns-clause-others : goal.returns-clause-others
returns-clause-others c = others_law
