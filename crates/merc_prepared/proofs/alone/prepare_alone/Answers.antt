-- The code that is loaded is that of the module and of the goal.
use Rattle.std.proofs.lemmas.Result.{IfOk-weaker}
use Rattle.merc_prepared.proofs.AloneCode.{compiled_alone}
use Rattle.merc_prepared.proofs.alone.prepare_alone.Goals as goal

pub returns : goal.returns
returns c =
    let code = c.in_ok-code.code in
    IfOk-weaker c.load.result _ _
    (λ program loaded.
    compiled_alone c.args.predicates.now c.args.trees.now c.args.goal.now c.args.answers code program c.in_ok-code.ensures.procedures c.in_ok-code.ensures.conjuncts c.in_ok-code.ensures.query loaded)
    c.load.ensures
