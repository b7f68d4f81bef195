use Rattle.std.proofs.Common.{◌∙◌, sym}
use Rattle.merc_modes.proofs.FaultOrder.{first_none, first_some}
use Rattle.merc_modes.proofs.ordering.first_fault.Goals as goal

pub returns-then-comes_first : goal.returns-then-comes_first
returns-then-comes_first c = λ faults found. first_some faults c.args.fault c.in-Some.other _ (sym c.in-Some.is ∙ found) (sym c.comes_first.ensures ∙ c.if-comes_first.true)

pub returns-else-comes_first : goal.returns-else-comes_first
returns-else-comes_first c = λ faults found. first_some faults c.args.fault c.in-Some.other _ (sym c.in-Some.is ∙ found) (sym c.comes_first.ensures ∙ c.if-comes_first.false)

pub returns-in-None : goal.returns-in-None
returns-in-None c = λ faults found. first_none faults c.args.fault (sym c.in-None.is ∙ found)
