use Rattle.std.proofs.Common.{◌+◌, sym, subst}
use Rattle.merc_goals.specs.Numbers.{Fits, NumberedTerm}
use Rattle.merc_goals.proofs.NumberLaws.{one_fits, two_fit}
use Rattle.merc_goals.proofs.planning.plan.Goals as goal

pub plan_one-requires : goal.plan_one-requires
plan_one-requires c =
    subst (λ (n : NumberedTerm). Fits (n.at + 2) c.in-One.only) c.whole.view_is
    (one_fits c.whole.inside.at c.whole.inside.term c.in-One.name c.in-One.only (sym c.in-One.ensures) c.whole.invariant)

pub right_of-right-requires : goal.right_of-right-requires
right_of-right-requires c = two_fit c.whole.inside.at c.whole.inside.term c.in-Two.name c.in-Two.left c.in-Two.right (sym c.in-Two.ensures) c.whole.invariant
