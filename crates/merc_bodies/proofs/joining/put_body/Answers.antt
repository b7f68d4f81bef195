use Rattle.std.proofs.lemmas.Result.{on_ok_weaker}
use Rattle.merc_bodies.proofs.OneGoal.{enough, many_forms, only_form}
use Rattle.merc_bodies.proofs.joining.put_body.Goals as goal

pub disjoin-requires : goal.disjoin-requires
disjoin-requires c = enough c.args.arity c.args.clauses.now c.args.nodes.now c.put_forms.new.nodes c.in_ok-put_forms.ensures

pub returns-in-len1 : goal.returns-in-len1
returns-in-len1 c = only_form c.args.arity c.args.clauses.now c.args.nodes.now c.put_forms.new.nodes c.in-len1.len_at_least c.in-len1.len_below c.in_ok-put_forms.ensures

pub returns-in-len1-up : goal.returns-in-len1-up
returns-in-len1-up c =
    on_ok_weaker c.disjoin.result
    (many_forms c.args.arity c.args.clauses.now c.first-item.result c.args.nodes.now c.put_forms.new.nodes c.disjoin.new.self
    c.in-len1-up.len_at_least c.first-item.is c.in_ok-put_forms.ensures)
    c.disjoin.ensures.ok
