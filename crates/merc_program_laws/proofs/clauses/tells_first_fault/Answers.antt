use Rattle.merc_program_laws.proofs.clauses.tells_first_fault.Goals as goal
use Rattle.merc_program_laws.proofs.FirstFaults.{tells_first}

abbrev pub returns : goal.returns
returns c = tells_first
