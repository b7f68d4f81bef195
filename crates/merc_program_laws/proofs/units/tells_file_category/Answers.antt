use Rattle.merc_program_laws.proofs.units.tells_file_category.Goals as goal
use Rattle.merc_program_laws.proofs.UnitCategories.{tells_category}

abbrev pub returns : goal.returns
returns c = tells_category
