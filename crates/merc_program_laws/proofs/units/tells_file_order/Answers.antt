use Rattle.merc_program_laws.proofs.units.tells_file_order.Goals as goal
use Rattle.merc_program_laws.proofs.UnitProcedures.{tells_file}

abbrev pub returns : goal.returns
returns c = tells_file
