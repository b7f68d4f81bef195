use Rattle.std.proofs.Common.{◌++◌, length, map, ap, ◌∙◌}
use Rattle.std.proofs.lemmas.Result.{on_ok_weaker}
use Rattle.merc_bodies.specs.Bodies.{joined_forms}
use Rattle.merc_bodies.specs.Grouping.{form_in}
use Rattle.merc_bodies.proofs.joining.put_forms.Goals as goal

pub returns : goal.returns
returns c =
    let forms = map form_in c.args.clauses.now in
    on_ok_weaker c.put_numbered-put.result
    (λ made. made
    ∙ ap (λ n. c.args.nodes.now ++ joined_forms n (length c.in_ok-numbering.numbering.variables.items) forms) c.in_ok-numbering.ensures.arity
    ∙ ap (λ n. c.args.nodes.now ++ joined_forms c.args.arity n forms) c.in_ok-numbering.ensures.arguments)
    c.put_numbered-put.ensures
