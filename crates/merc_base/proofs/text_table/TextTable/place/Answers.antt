-- The number that is kept of a text is its place.
use Rattle.std.proofs.Common.{◌∙◌}
use Rattle.merc_base.proofs.TextTables.{number_first, number_known}
use Rattle.merc_base.proofs.text_table.TextTable.place.Goals as goal

pub returns-clause-found : goal.returns-clause-found
returns-clause-found c = rw (← c.self.view_is) (number_first _ c.args.text.now c.copied.result (c.copied.ensures ∙ c.get.ensures.value ∙ c.self.invariant.0 c.args.text.now))

pub returns-clause-known : goal.returns-clause-known
returns-clause-known c = rw (← c.self.view_is) (number_known _ c.args.text.now c.copied.result (c.copied.ensures ∙ c.get.ensures.value ∙ c.self.invariant.0 c.args.text.now))
