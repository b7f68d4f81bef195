use Rattle.merc_program_laws.proofs.modules.literals_are_as_written.Goals as goal
use Rattle.merc_program_laws.proofs.BodyLiterals.{body_has_literals, module_has_literals, query_has_literals}
use Rattle.merc_program_laws.proofs.GoalLiterals.{clause_has_literals}
use Rattle.merc_program_laws.proofs.ModuleWords.{module_has_words}

pub returns-clause-words : goal.returns-clause-words
returns-clause-words c = module_has_words

pub returns-clause-clauses : goal.returns-clause-clauses
returns-clause-clauses c = clause_has_literals

pub returns-clause-bodies : goal.returns-clause-bodies
returns-clause-bodies c = body_has_literals

pub returns-clause-predicates : goal.returns-clause-predicates
returns-clause-predicates c = module_has_literals

pub returns-clause-query : goal.returns-clause-query
returns-clause-query c = query_has_literals
