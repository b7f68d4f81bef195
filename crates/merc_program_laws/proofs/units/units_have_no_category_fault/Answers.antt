use Rattle.merc_program_laws.proofs.units.units_have_no_category_fault.Goals as goal
use Rattle.merc_program_laws.proofs.UnitCategories.{units_have_none}

abbrev pub returns : goal.returns
returns c = units_have_none
