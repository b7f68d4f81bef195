use Rattle.std.proofs.Common.{◌≡◌, ◌∙◌, true, [], ap, sym, arith}
use Rattle.merc_goal_facts.specs.Arms.{among_all}
use Rattle.merc_goal_facts.proofs.Joined.{none_left}
use Rattle.merc_goal_facts.proofs.Arms.{all_on, all_on_is}
use Rattle.merc_goal_facts.proofs.choosing.bound_by_all.Goals as goal

pub returns-clause-bound : goal.returns-clause-bound
returns-clause-bound c = λ total modes goals variable are.
    let none : c.loop-rest.rest.now ≡ [] = none_left c.loop-rest.rest.now (omega (arith, c.in_default.len_below)) in
    sym (ap (all_on c.args.facts.now c.args.any_reached variable (among_all c.loop-rest.bound variable)) none) ∙ c.loop-rest.invariant.bound variable
    ∙ all_on_is total modes c.args.facts.now c.args.joined.now goals c.args.any_reached variable true are
