use Rattle.std.proofs.lemmas.Result.{IfOk-weaker}
use Rattle.merc_goal_facts.specs.Needs.{found_in}
use Rattle.merc_goal_facts.proofs.Needs.{brought_bound}
use Rattle.merc_goal_facts.proofs.needing.bind_brought.Goals as goal

pub returns : goal.returns
returns c =
    IfOk-weaker c.bind_all.result _ _ (λ done is.
    brought_bound (found_in c.args.facts.now c.args.joined.now) c.in_ok-brought.brought c.as_slice.result.now c.brought_by_some.new.set c.bind_all.new.self
    c.in_ok-brought.ensures.brought c.as_slice.ensures c.in_ok-brought.ensures.cleared is) c.bind_all.ensures
