use Rattle.merc_base.proofs.FixedNames.{found_fixed}
use Rattle.merc_base.proofs.names.fixed_number.Goals as goal

pub returns : goal.returns
returns c = found_fixed c.args.text.now c.fixed_table.result.now c.number_in.result c.fixed_table.ensures c.number_in.ensures
