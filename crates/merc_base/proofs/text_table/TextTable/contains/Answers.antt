-- A text has a number where it is there.
use Rattle.std.proofs.Common.{◌∙◌}
use Rattle.merc_base.proofs.TextTables.{number_known}
use Rattle.merc_base.proofs.text_table.TextTable.contains.Goals as goal

pub returns : goal.returns
returns c = rw (← c.self.view_is) (c.contains_key.ensures ∙ number_known _ c.args.text.now _ (c.self.invariant.0 c.args.text.now))
