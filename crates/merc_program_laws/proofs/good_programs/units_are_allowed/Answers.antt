use Rattle.merc_program_laws.proofs.good_programs.units_are_allowed.Goals as goal
use Rattle.merc_program_laws.proofs.Allowed.{units_allowed}

abbrev pub returns : goal.returns
returns c = units_allowed
