use Rattle.std.proofs.Common.{refl}
use Rattle.merc_base.specs.Names.{fixed_names}
use Rattle.merc_base.proofs.names.fixed_table.Goals as goal

pub returns : goal.returns
unfolding fixed_names
returns c = refl
