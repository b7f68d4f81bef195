use Rattle.merc_switch_choice.proofs.OrderLaws.{above}
use Rattle.merc_switch_choice.proofs.ordered.OrderedVars.pop_least.Goals as goal

pub returns-clause-least : goal.returns-clause-least
returns-clause-least c = λ other. above _ _ c.in-Some.number c.new.result other c.new.ensures (c.in-Some.ensures.updates.0 other) (c.in-Some.ensures.least other)
