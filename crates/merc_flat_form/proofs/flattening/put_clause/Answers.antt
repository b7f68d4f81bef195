use Rattle.std.proofs.Common.{◌+◌, ◌++◌, refl, ap, sym}
use Rattle.std.proofs.lemmas.Result.{on_ok_weaker}
use Rattle.merc_goals.specs.Written.{parts}
use Rattle.merc_name_resolution.specs.Known.{callee_in}
use Rattle.merc_value.specs.Text.{is_blank}
use Rattle.merc_flat_form.specs.FlatForm.{argument_terms, body_goals, head_goals, head_scope, simple}
use Rattle.merc_flat_form.proofs.WholeGoals.{body_put, head_put, made_one}
use Rattle.merc_flat_form.proofs.flattening.put_clause.Goals as goal

pub returns : goal.returns
returns c =
    let names = c.requires.names in
    let brought = ap (λ h. head_scope (is_blank c.args.names.now) 0 (c.args.at + 2) (argument_terms h)) (sym c.as_ref-head.ensures) in
    let scope = head_scope (is_blank c.args.names.now) 0 (c.args.at + 2) (argument_terms c.args.clause.now.head) in
    let goals = simple c.args.clause.now.span (head_goals (is_blank c.args.names.now) scope 0 (c.args.at + 2) (argument_terms c.args.clause.now.head)) in
    let body = body_goals (is_blank c.args.names.now) (callee_in c.args.known.now) scope (c.args.at + parts c.args.clause.now.head) c.args.clause.now.body in
    let head = head_put (is_blank c.args.names.now) (callee_in c.args.known.now) c.args.at c.args.clause.now.head c.as_ref-head.result c.args.clause.now.span scope
    c.args.stack.now c.args.nodes.now c.put_all.new.nodes c.in_ok-goals.goals.items c.as_ref-head.ensures brought names c.in_ok-goals.ensures c.in_ok-put_all.ensures in
    on_ok_weaker c.make_one.result
    (λ made.
    made_one c.args.clause.now.span c.args.clause.now.span c.len-start.result c.args.nodes.now (goals ++ body) c.put_body.new.nodes c.make_one.new.nodes made refl c.len-start.ensures
    (body_put (is_blank c.args.names.now) (callee_in c.args.known.now) c.args.at c.args.clause.now.head c.as_ref-head.result c.args.clause.now.body scope
    c.args.stack.now c.args.nodes.now goals c.put_all.new.nodes c.put_body.new.nodes c.as_ref-head.ensures brought names head c.in_ok-put_body.ensures))
    c.make_one.ensures
