use Rattle.merc_program_laws.proofs.modules.types_are_good.Goals as goal
use Rattle.merc_program_laws.proofs.ModuleTypes.{module_has_good_types, module_is_scoped}

pub returns-clause-scoped : goal.returns-clause-scoped
returns-clause-scoped c = module_is_scoped

pub returns-clause-good : goal.returns-clause-good
returns-clause-good c = module_has_good_types
