use Rattle.std.proofs.Common.{◌∙◌, sym}
use Rattle.merc_det.proofs.FaultOrder.{first_kept, first_passed, first_alone, first_later}
use Rattle.merc_det.proofs.faults.first_of.Goals as goal

pub returns-then-comes_first : goal.returns-then-comes_first
returns-then-comes_first c = λ faults others e f.
    first_kept faults others c.args.one c.args.other c.in-Some-Some.one c.in-Some-Some.other c.in-Some-Some.is-0 c.in-Some-Some.is-1 (sym c.comes_first.ensures ∙ c.if-comes_first.true) e f

pub returns-else-comes_first : goal.returns-else-comes_first
returns-else-comes_first c = λ faults others e f.
    first_passed faults others c.args.one c.args.other c.in-Some-Some.one c.in-Some-Some.other c.in-Some-Some.is-0 c.in-Some-Some.is-1 (sym c.comes_first.ensures ∙ c.if-comes_first.false) e f

pub returns-in-Some-None : goal.returns-in-Some-None
returns-in-Some-None c = λ faults others e f.
    first_alone faults others c.args.one c.args.other c.in-Some-None.one c.in-Some-None.is-0 c.in-Some-None.is-1 e f

pub returns-in-None-default : goal.returns-in-None-default
returns-in-None-default c = λ faults others e f. first_later faults others c.args.one c.args.other c.in-None-default.is-0 e f
