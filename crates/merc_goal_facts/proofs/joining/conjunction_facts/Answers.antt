use Rattle.std.proofs.Common.{◌≡◌, ◌∙◌, [], ap, sym, arith}
use Rattle.merc_goal_facts.proofs.Joined.{reached_on, bound_on, none_left, conjunction_are, parallel_are}
use Rattle.merc_goal_facts.proofs.joining.conjunction_facts.Goals as goal

pub returns-clause-sequence : goal.returns-clause-sequence
returns-clause-sequence c = λ total modes goals span are count.
    let none : c.loop-rest.rest.now ≡ [] = none_left c.loop-rest.rest.now (omega (arith, c.in_default.len_below)) in
    conjunction_are total modes c.args.facts.now c.args.joined.now goals span _
    (sym (ap (reached_on c.args.facts.now c.loop-rest.reached) none) ∙ c.loop-rest.invariant.reached)
    (sym (ap (bound_on c.args.facts.now c.loop-rest.binds) none) ∙ c.loop-rest.invariant.binds) c.new.ensures c.new-2.ensures c.in_ok-needs.ensures.needed are count

pub returns-clause-parallel : goal.returns-clause-parallel
returns-clause-parallel c = λ total modes goals span are count.
    let none : c.loop-rest.rest.now ≡ [] = none_left c.loop-rest.rest.now (omega (arith, c.in_default.len_below)) in
    parallel_are total modes c.args.facts.now c.args.joined.now goals span _
    (sym (ap (reached_on c.args.facts.now c.loop-rest.reached) none) ∙ c.loop-rest.invariant.reached)
    (sym (ap (bound_on c.args.facts.now c.loop-rest.binds) none) ∙ c.loop-rest.invariant.binds) c.new.ensures c.new-2.ensures c.in_ok-needs.ensures.needed are count
