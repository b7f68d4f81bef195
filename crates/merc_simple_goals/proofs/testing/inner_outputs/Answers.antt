use Rattle.std.proofs.Common.{◌∙◌, ap}
use Rattle.merc_goal_facts.specs.Bounds.{all_behind}
use Rattle.merc_simple_goals.proofs.Tests.{inner_are}
use Rattle.merc_simple_goals.proofs.testing.inner_outputs.Goals as goal

pub returns-clause-outputs : goal.returns-clause-outputs
returns-clause-outputs c =
    inner_are c.args.at c.args.outputs.now c.args.writes.now c.args.tested.now c.bind_all-2.new.self c.in_ok-all.all c.push_numbered.new.all
    (c.in_ok-bind_all-2.ensures ∙ ap (λ l. all_behind l c.args.tested.now) (c.in_ok-bind_all.ensures ∙ ap (λ l. all_behind l c.args.outputs.now) c.requires))
    c.in_ok-all.ensures c.in_ok-push_numbered.ensures
