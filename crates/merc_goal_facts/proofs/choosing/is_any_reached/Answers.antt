use Rattle.std.proofs.Common.{◌≡◌, ◌∙◌, false, [], ap, sym, arith}
use Rattle.merc_goal_facts.proofs.Joined.{none_left}
use Rattle.merc_goal_facts.proofs.Arms.{any_on, any_on_is}
use Rattle.merc_goal_facts.proofs.choosing.is_any_reached.Goals as goal

pub returns : goal.returns
returns c = λ total modes goals are.
    let none : c.loop-rest.rest.now ≡ [] = none_left c.loop-rest.rest.now (omega (arith, c.in_default.len_below)) in
    sym (ap (any_on c.args.facts.now c.loop-rest.any) none) ∙ c.loop-rest.invariant ∙ any_on_is total modes c.args.facts.now c.args.joined.now goals false are
