use Rattle.merc_type_graph.specs.Joining.{work}
use Rattle.merc_type_graph.proofs.Equating.{IsEquating}
use Rattle.merc_type_graph.proofs.joining.equate.Given as goal

abbrev pub invariant-loop-pair : goal.invariant-loop-pair
invariant-loop-pair l = IsEquating l.store l.fn.cells l.cells l.pairs.items l.fn.one l.fn.other

abbrev pub decreases-loop-pair : goal.decreases-loop-pair
decreases-loop-pair l = work l.store l.cells l.pairs.items
