use Rattle.std.proofs.Common.{◌≡◌, ◌∙◌, [], ap, sym, arith}
use Rattle.merc_order.specs.Bound.{among}
use Rattle.merc_goal_facts.proofs.Joined.{none_left}
use Rattle.merc_goal_facts.proofs.Needs.{brought_on, brought_on_is}
use Rattle.merc_goal_facts.proofs.needing.brought_by_some.Goals as goal

pub returns-clause-brought : goal.returns-clause-brought
returns-clause-brought c = λ variable.
    let none : c.loop-rest.rest.now ≡ [] = none_left c.loop-rest.rest.now (omega (arith, c.in_default.len_below)) in
    ap (λ l. among l variable) (sym (ap (brought_on c.args.facts.now c.loop-rest.brought) none) ∙ c.loop-rest.invariant.brought)
    ∙ brought_on_is c.args.facts.now c.args.joined.now [] variable
