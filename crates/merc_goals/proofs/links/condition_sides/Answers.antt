use Rattle.std.proofs.Common.{sym}
use Rattle.merc_goals.proofs.NumberLaws.{one_fits}
use Rattle.merc_goals.proofs.links.condition_sides.Goals as goal

pub left_of-only-requires : goal.left_of-only-requires
left_of-only-requires c = one_fits c.whole.inside.at c.whole.inside.term c.in-One.name c.in-One.only (sym c.in-One.ensures) c.whole.invariant
