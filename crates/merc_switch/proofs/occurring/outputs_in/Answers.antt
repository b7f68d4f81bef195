use Rattle.std.proofs.Common.{subst}
use Rattle.std.proofs.lemmas.Result.{IfOk-weaker}
use Rattle.merc_switch.specs.Selections.{MayCount}
use Rattle.merc_switch.proofs.occurring.outputs_in.Goals as goal

pub returns-in-Some-clause-outputs : goal.returns-in-Some-clause-outputs
returns-in-Some-clause-outputs c =
    let whole = c.args.whole.now in
    let goals = c.args.disjuncts.now in
    IfOk-weaker c.outputs_counted.result _ _ (λ kept made. made goals (subst (λ o. MayCount whole o goals) c.in-Some.is c.requires)) c.outputs_counted.ensures

pub returns-clause-outputs : goal.returns-clause-outputs
returns-clause-outputs c = IfOk-weaker c.outputs_counted-outputs.result _ _ (λ kept made. made c.args.disjuncts.now c.in_ok-made.ensures) c.outputs_counted-outputs.ensures
