use Rattle.merc_program_laws.proofs.clauses.tells_file_fault.Goals as goal
use Rattle.merc_program_laws.proofs.UnitClauses.{tells_file_fault}

abbrev pub returns : goal.returns
returns c = tells_file_fault
