-- The form is that of the number of arguments.
use Rattle.std.proofs.Common.{sym, ◌∙◌}
use Rattle.merc_term_text.proofs.Forms.{form_known}
use Rattle.merc_term_text.proofs.form.form_of.Goals as goal

pub returns-else-is_some : goal.returns-else-is_some
returns-else-is_some c = c.application_form.ensures ∙ form_known c.args.term.now c.in-Application.name c.in-Application.qualifier c.in-Application.arity c.in-Application.ensures (sym c.is_some.ensures ∙ c.if-is_some.false)
