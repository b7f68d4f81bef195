use Rattle.merc_program_laws.proofs.trees.switches_keep_types.Goals as goal
use Rattle.merc_program_laws.proofs.FoundBasics.{found_is_typed, found_has_literals}

pub returns-clause-typed : goal.returns-clause-typed
returns-clause-typed c = found_is_typed

pub returns-clause-literals : goal.returns-clause-literals
returns-clause-literals c = found_has_literals
