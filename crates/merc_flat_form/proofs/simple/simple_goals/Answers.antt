use Rattle.std.proofs.Common.{subst}
use Rattle.merc_goals.specs.Entries.{FormFits}
use Rattle.merc_goals.specs.declared.goal.Form.{Form}
use Rattle.merc_flat_form.proofs.simple.simple_goals.Goals as goal

pub equal-requires : goal.equal-requires
equal-requires c = subst (λ (f : Form). FormFits c.entry.inside.at f) c.in-Equal.is c.entry.invariant

pub compared-requires : goal.compared-requires
compared-requires c = subst (λ (f : Form). FormFits c.entry.inside.at f) c.in-Compared.is c.entry.invariant

pub call_goals-requires : goal.call_goals-requires
call_goals-requires c = subst (λ (f : Form). FormFits c.entry.inside.at f) c.in-Called.is c.entry.invariant

pub returns-in-Compared : goal.returns-in-Compared
returns-in-Compared c = rw (← c.entry.view_is) (rw c.in-Compared.is c.compared.ensures)
