use Rattle.merc_type_table.specs.Table.{type_at}
use Rattle.merc_type_graph.specs.Fixing.{left}
use Rattle.merc_type_graph.proofs.Fixings.{IsFixing}
use Rattle.merc_type_graph.proofs.fixing.fix.Given as goal

abbrev pub invariant-loop-fixing : goal.invariant-loop-fixing
invariant-loop-fixing l = IsFixing l.store l.fn.cells l.cells l.fixings.items l.fn.place (type_at l.store.table.now l.fn.whole)

abbrev pub decreases-loop-fixing : goal.decreases-loop-fixing
decreases-loop-fixing l = left l.store.table.now l.fixings.items
