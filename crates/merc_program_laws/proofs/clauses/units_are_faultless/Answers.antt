use Rattle.merc_program_laws.proofs.clauses.units_are_faultless.Goals as goal
use Rattle.merc_program_laws.proofs.UnitClauses.{units_faultless}

abbrev pub returns : goal.returns
returns c = units_faultless
