use Rattle.std.proofs.Common.{sym, ◌∙◌}
use Rattle.merc_item_forms.proofs.FormLaws.{no_fault, first_fault}
use Rattle.merc_item_forms.proofs.forms.check_forms.Goals as goal

pub returns-in-Some-clause-refused : goal.returns-in-Some-clause-refused
returns-in-Some-clause-refused c = first_fault c.args.names.now c.args.terms.now c.in-Some.refusal c.requires.order (sym c.in-Some.is ∙ c.in_ok-refusal.ensures)

pub returns-in-None-clause-fine : goal.returns-in-None-clause-fine
returns-in-None-clause-fine c = no_fault c.args.names.now c.args.terms.now c.requires.order (sym c.in-None.is ∙ c.in_ok-refusal.ensures)
