use Rattle.std.proofs.Common.{drop}
use Rattle.merc_type_graph.proofs.Fixings.{IsFitting}
use Rattle.merc_type_graph.proofs.fixing.fit_arguments.Given as goal

abbrev pub invariant-loop-place : goal.invariant-loop-place
invariant-loop-place l = IsFitting l.table l.fn.fixings.items l.fixings.items l.name l.places (drop l.place-index l.places) l.fn.whole l.rest
