use Rattle.std.proofs.Common.{◌∙◌}
use Rattle.merc_base.proofs.FixedNames.{slice_get-fixed}
use Rattle.merc_base.proofs.names.fixed_text.Goals as goal

pub returns : goal.returns
returns c = c.text_in.ensures ∙ slice_get-fixed c.fixed_table.result.now c.args.number c.fixed_table.ensures
