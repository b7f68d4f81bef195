-- Nothing has a number.
use Rattle.std.proofs.Common.{refl}
use Rattle.merc_base.proofs.TextTables.{none-distinct}
use Rattle.merc_base.proofs.text_table.TextTable.new.Goals as goal

pub invariant_of-result : goal.invariant_of-result
invariant_of-result c = rw c.new.ensures.items (rw c.new-2.ensures.empty ((λ text. refl), none-distinct))
