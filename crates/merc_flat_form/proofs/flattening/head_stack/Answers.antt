use Rattle.std.proofs.Common.{◌+◌, ap, ◌∙◌}
use Rattle.std.proofs.lemmas.Result.{IfOk-weaker}
use Rattle.merc_value.specs.Text.{is_blank}
use Rattle.merc_scopes.specs.Scopes.{at_of}
use Rattle.merc_flat_form.specs.FlatForm.{argument_terms, head_scope}
use Rattle.merc_flat_form.proofs.flattening.head_stack.Goals as goal

pub returns : goal.returns
returns c =
    let scope = c.deref.ensures.value ∙ c.in_ok-scope.ensures ∙ ap (λ h. head_scope (is_blank c.args.names.now) 0 (c.args.at + 2) (argument_terms h)) c.as_ref-head.ensures in
    IfOk-weaker c.of-stack.result _ _ (λ stack names name. names name ∙ ap (at_of name) scope) c.of-stack.ensures
