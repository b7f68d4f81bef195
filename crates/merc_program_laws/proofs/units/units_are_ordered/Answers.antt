use Rattle.merc_program_laws.proofs.units.units_are_ordered.Goals as goal
use Rattle.merc_program_laws.proofs.UnitProcedures.{units_ordered}

abbrev pub returns : goal.returns
returns c = units_ordered
