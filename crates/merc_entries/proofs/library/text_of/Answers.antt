use Rattle.std.proofs.Common.{◌∙◌}
use Rattle.merc_entries.proofs.UnitLaws.{found_unit, short_behind}
use Rattle.merc_entries.proofs.library.text_of.Goals as goal

pub returns-clause-value : goal.returns-clause-value
returns-clause-value c = c.text_in.ensures ∙ found_unit c.args.name.now c.unit_table.result.now c.unit_table.ensures

pub returns-clause-short : goal.returns-clause-short
returns-clause-short c = short_behind c.args.name.now c.text_in.result (returns-clause-value c)
