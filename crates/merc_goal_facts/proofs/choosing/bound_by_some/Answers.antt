use Rattle.std.proofs.Common.{◌≡◌, ◌∙◌, [], ap, sym, arith}
use Rattle.merc_order.specs.Bound.{among}
use Rattle.merc_goal_facts.proofs.Joined.{none_left}
use Rattle.merc_goal_facts.proofs.Arms.{some_on, some_on_is}
use Rattle.merc_goal_facts.proofs.choosing.bound_by_some.Goals as goal

pub returns-clause-bound : goal.returns-clause-bound
returns-clause-bound c = λ total modes goals variable are.
    let none : c.loop-rest.rest.now ≡ [] = none_left c.loop-rest.rest.now (omega (arith, c.in_default.len_below)) in
    ap (λ l. among l variable) (sym (ap (some_on c.args.facts.now c.args.any_reached c.loop-rest.bound) none) ∙ c.loop-rest.invariant.bound)
    ∙ some_on_is total modes c.args.facts.now c.args.joined.now goals c.args.any_reached [] variable are
