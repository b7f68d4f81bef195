use Rattle.std.proofs.Common.{◌∙◌}
use Rattle.merc_switch.proofs.InnerGroups.{inner_is}
use Rattle.merc_switch.proofs.judging.step_in.Goals as goal

pub returns-clause-group : goal.returns-clause-group
returns-clause-group c =
    inner_is c.args.variable c.args.group.now c.inner_outputs.new.selected c.add.new.self c.saturating_sub-group.result c.replace-outputs.new.dest c.in_ok-inner.ensures.selection c.in_ok-add.ensures c.saturating_sub-group.ensures
    (c.replace-outputs.ensures.after ∙ c.in_ok-inner.ensures.outputs)
