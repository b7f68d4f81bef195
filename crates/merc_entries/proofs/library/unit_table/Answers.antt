use Rattle.std.proofs.Common.{refl}
use Rattle.merc_entries.specs.Library.{units}
use Rattle.merc_entries.proofs.library.unit_table.Goals as goal

pub returns : goal.returns
unfolding units
returns c = refl
