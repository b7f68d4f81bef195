use Rattle.merc_program_laws.proofs.trees.switches_are_guarded.Goals as goal
use Rattle.merc_program_laws.proofs.FoundGuards.{found_has_guards}
use Rattle.merc_program_laws.proofs.SpeltGuards.{spelt_has_guards}

pub returns-clause-found : goal.returns-clause-found
returns-clause-found c = found_has_guards

pub returns-clause-ordered : goal.returns-clause-ordered
returns-clause-ordered c = spelt_has_guards
