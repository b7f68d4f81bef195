use Rattle.std.proofs.Common.{◌≡◌, ◌∙◌, [], ap, sym, arith}
use Rattle.merc_order.specs.Bound.{among}
use Rattle.merc_goal_facts.proofs.Joined.{none_left}
use Rattle.merc_goal_facts.proofs.Needs.{needed_on, needed_on_is}
use Rattle.merc_goal_facts.proofs.needing.needed_by_some.Goals as goal

pub returns-clause-needed : goal.returns-clause-needed
returns-clause-needed c = λ variable.
    let none : c.loop-rest.rest.now ≡ [] = none_left c.loop-rest.rest.now (omega (arith, c.in_default.len_below)) in
    ap (λ l. among l variable) (sym (ap (needed_on c.args.facts.now c.loop-rest.needed) none) ∙ c.loop-rest.invariant.needed)
    ∙ needed_on_is c.args.facts.now c.args.joined.now [] variable
