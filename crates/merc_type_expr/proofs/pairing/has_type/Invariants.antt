use Rattle.std.proofs.Common.{drop}
use Rattle.merc_type_expr.specs.Solving.{Has}
use Rattle.merc_type_expr.proofs.pairing.has_type.Given as goal

abbrev pub invariant-loop-found : goal.invariant-loop-found
invariant-loop-found l = Has l.wanted l.types → Has l.wanted (drop l.found-index l.types)
