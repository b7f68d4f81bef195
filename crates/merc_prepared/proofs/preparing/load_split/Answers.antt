-- The code that is loaded is that of the trees and of the goal.
use Rattle.std.proofs.lemmas.Result.{IfOk-weaker}
use Rattle.merc_prepared.proofs.Compiling.{loaded_alone}
use Rattle.merc_prepared.proofs.preparing.load_split.Goals as goal

pub returns : goal.returns
returns c =
    let code = c.in_ok-code.code in
    IfOk-weaker c.load.result _ _
    (λ program loaded only one.
    loaded_alone c.args.predicates.now c.args.trees.now c.in-Some.goal only c.args.goal.now c.args.answers code program c.in-Some.ensures one
    c.in_ok-code.ensures.procedures c.in_ok-code.ensures.conjuncts c.in_ok-code.ensures.query loaded)
    c.load.ensures
