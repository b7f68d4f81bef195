use Rattle.std.proofs.Common.{sym}
use Rattle.merc_goals.proofs.NumberLaws.{two_fit}
use Rattle.merc_goals.proofs.links.sides.Goals as goal

pub right_of-right-requires : goal.right_of-right-requires
right_of-right-requires c = two_fit c.whole.inside.at c.whole.inside.term c.in-Two.name c.in-Two.left c.in-Two.right (sym c.in-Two.ensures) c.whole.invariant
