-- What is told of the types of a fitted tree is told of a body's.
use Rattle.std.proofs.Common.{[], ◌∷◌, sym, ap, ◌∙◌}
use Rattle.std.proofs.lemmas.Result.{IfOk-weaker}
use Rattle.merc_order.specs.Bound.{nothing}
use Rattle.merc_grading.specs.Faults.{Body, finished}
use Rattle.merc_check.proofs.ProcedureTrees.{asked_tree}
use Rattle.merc_check.proofs.checking.check_query_tree.Goals as goal

pub returns-clause-told : goal.returns-clause-told
returns-clause-told c = λ answers goal tree body one query asked.
    let found = asked_tree c.args.known.now answers goal c.args.ordered.now tree c.in-Some.tree body c.requires.apart (sym c.get.ensures ∙ c.in-Some.is) one query asked in
    rw (found.0) (c.check_query_categories.ensures.told body.types found.1)

pub returns-clause-graded : goal.returns-clause-graded
returns-clause-graded c =
    IfOk-weaker c.check_query_categories.result _ _
    (λ trees graded answers goal tree body one query asked.
    let found = asked_tree c.args.known.now answers goal c.args.ordered.now tree c.in-Some.tree body c.requires.apart (sym c.get.ensures ∙ c.in-Some.is) one query asked in
    graded body.types found.1 ∙ ap (λ (some : Body). finished c.args.known.now.types c.args.known.now.preds nothing some ∷ []) (sym found.0)) c.check_query_categories.ensures.graded
