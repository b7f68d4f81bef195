use Rattle.merc_program_laws.proofs.categories.queries_keep_to_categories.Goals as goal
use Rattle.merc_program_laws.proofs.Programs.{query_category_law, query_type_law}

pub returns-clause-category : goal.returns-clause-category
returns-clause-category c = query_category_law

pub returns-clause-types : goal.returns-clause-types
returns-clause-types c = query_type_law
