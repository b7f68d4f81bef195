use Rattle.merc_order_laws.proofs.ordered_goals.is_typed.Goals as goal
use Rattle.merc_order_laws.proofs.TreeTypes.{tree_is_typed}

abbrev pub returns : goal.returns
returns c = tree_is_typed
