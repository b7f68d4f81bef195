use Rattle.std.proofs.Common.{◌==◌, ◌||◌, ◌∙◌, ap}
use Rattle.merc_order.specs.Bound.{among}
use Rattle.merc_switch_choice.proofs.OrderLaws.{added}
use Rattle.merc_switch_choice.proofs.ordered.OrderedVars.add.Goals as goal

pub returns : goal.returns
returns c = λ other. added _ _ _ c.args.variable other c.number.ensures (c.in_ok-insert.ensures.updates.0 other) ∙ ap (λ l. (other == c.args.variable) || among l other) c.self.view_is
