use Rattle.merc_order_laws.proofs.ordered_goals.is_sized.Goals as goal
use Rattle.merc_order_laws.proofs.TreeTypes.{typed_is_sized}

abbrev pub returns : goal.returns
returns c = typed_is_sized
