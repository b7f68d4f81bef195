use Rattle.merc_program_laws.proofs.categories.calls_keep_to_categories.Goals as goal
use Rattle.merc_program_laws.proofs.Programs.{category_law, erroneous_law, type_law}

pub returns-clause-category : goal.returns-clause-category
returns-clause-category c = category_law

pub returns-clause-erroneous : goal.returns-clause-erroneous
returns-clause-erroneous c = erroneous_law

pub returns-clause-types : goal.returns-clause-types
returns-clause-types c = type_law
