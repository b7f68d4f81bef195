use Rattle.std.proofs.Common.{◌∙◌, ap}
use Rattle.merc_order.specs.Bound.{among}
use Rattle.merc_switch_choice.specs.Counting.{one_if, occurrences}
use Rattle.merc_switch_choice.proofs.CountLaws.{once_among}
use Rattle.merc_switch_choice.proofs.variables.VarSet.numbers.Goals as goal

pub returns-clause-once : goal.returns-clause-once
returns-clause-once c = λ variable.
    ap (λ l. occurrences l variable) c.as_slice.ensures.keys ∙ once_among variable c.self.inside.numbers.keys c.as_slice.ensures.unique ∙ ap (λ l. one_if (among l variable)) c.self.view_is
