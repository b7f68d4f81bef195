use Rattle.std.proofs.Common.{◌≡◌, length}
use Rattle.merc_item_forms.specs.Parameters.{has_equal_neighbors}
use Rattle.merc_item_forms.proofs.parameters.has_equal_neighbors.Given as goal

abbrev pub invariant-loop-rest : goal.invariant-loop-rest
invariant-loop-rest l = has_equal_neighbors l.rest ≡ has_equal_neighbors l.names

abbrev pub decreases-loop-rest : goal.decreases-loop-rest
decreases-loop-rest l = length l.rest
