use Rattle.std.proofs.Common.{◌∙◌, ap, Err}
use Rattle.std.proofs.lemmas.Result.{err_from_is_err_and}
use Rattle.merc_order.specs.Procedures.{modes_of}
use Rattle.merc_modes.proofs.Procedures.{query_is, query_fault, query_told, query_tree}
use Rattle.merc_modes.proofs.ordering.order_query.Goals as goal

pub returns-in_err-order_body-clause-told : goal.returns-in_err-order_body-clause-told
returns-in_err-order_body-clause-told c =
    let modes = modes_of c.args.predicates.now in
    let answers = c.args.answers.now in
    let goal = c.args.goal.now in
    let p = err_from_is_err_and c.from_residual-in_err-order_body.result c.from_residual-in_err-order_body.ensures.1 in
    query_fault modes _ answers goal _ c.nothing_written-written.result.nodes c.order_body.new.written.nodes c.in_err-order_body.field-0.0 c.from_residual-in_err-order_body.result
    (query_is modes answers goal _ _ c.new-bound.ensures c.span.ensures) c.in_err-order_body.ensures (p.1 ∙ ap Err p.2)

pub returns-clause-told : goal.returns-clause-told
returns-clause-told c =
    let modes = modes_of c.args.predicates.now in
    let answers = c.args.answers.now in
    let goal = c.args.goal.now in
    query_told modes answers goal _ _ _ c.in_ok-order_body.field-0 (query_is modes answers goal _ _ c.new-bound.ensures c.span.ensures) c.in_ok-order_body.ensures

pub returns-clause-tree : goal.returns-clause-tree
returns-clause-tree c =
    let modes = modes_of c.args.predicates.now in
    let answers = c.args.answers.now in
    let goal = c.args.goal.now in
    query_tree modes answers goal _ _ _ c.in_ok-order_body.field-0 (query_is modes answers goal _ _ c.new-bound.ensures c.span.ensures) c.nothing_written-written.ensures
    c.in_ok-order_body.ensures
