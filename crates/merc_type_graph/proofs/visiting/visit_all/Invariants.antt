use Rattle.merc_type_graph.proofs.Deciding.{AreDone}
use Rattle.merc_type_graph.proofs.visiting.visit_all.Given as goal

abbrev pub invariant-loop-start : goal.invariant-loop-start
invariant-loop-start l = AreDone l.store l.cells l.marks l.start
