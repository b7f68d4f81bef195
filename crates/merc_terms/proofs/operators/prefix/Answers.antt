use Rattle.std.proofs.Common.{refl}
use Rattle.merc_terms.specs.Operators.{operators}
use Rattle.merc_terms.proofs.operators.prefix.Goals as goal

pub prefix_in-requires : goal.prefix_in-requires
unfolding operators
prefix_in-requires c = refl
