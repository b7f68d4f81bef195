use Rattle.std.proofs.Common.{refl}
use Rattle.merc_terms.specs.Operators.{operators}
use Rattle.merc_terms.proofs.operators.infix.Goals as goal

pub infix_in-requires : goal.infix_in-requires
unfolding operators
infix_in-requires c = refl
