use Rattle.std.proofs.lemmas.Result.{IfErr-weaker, err_from_is_err_and}
use Rattle.merc_terms.proofs.TextSteps.{tokens-refused, items-refused}
use Rattle.merc_terms.proofs.texts.read_text.Goals as goal

pub returns-in_err-tokens-clause-refused : goal.returns-in_err-tokens-clause-refused
returns-in_err-tokens-clause-refused c =
    let p = err_from_is_err_and c.from_residual.result c.from_residual.ensures.1 in
    rw (p.1, p.2) (tokens-refused c.args.names.now c.args.text.now c.in_err-tokens.field-0.0 c.in_err-tokens.ensures.refused)

pub returns-clause-refused : goal.returns-clause-refused
returns-clause-refused c =
    IfErr-weaker c.read_items-terms.result _ _
    (λ fault refuses. items-refused c.args.names.now c.args.text.now c.tokens.new.names c.in_ok-tokens.tokens c.in_ok-tokens.ensures.found fault refuses)
    c.read_items-terms.ensures.refused
