use Rattle.std.proofs.Common.{arith}
use Rattle.merc_item_forms.proofs.Indexes.{within_items}
use Rattle.merc_item_forms.proofs.forms.refusal_at.Goals as goal

pub overflow_add-position : goal.overflow_add-position
overflow_add-position c = omega (arith, within_items c.args.terms.now c.args.index c.in-Some.term c.in-Some.ensures, c.len-count.ensures, c.len-count.type_inv)
