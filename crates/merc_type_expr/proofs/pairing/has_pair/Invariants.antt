use Rattle.std.proofs.Common.{drop}
use Rattle.merc_type_expr.specs.Solving.{Has}
use Rattle.merc_type_expr.proofs.pairing.has_pair.Given as goal

abbrev pub invariant-loop-pair : goal.invariant-loop-pair
invariant-loop-pair l = Has (l.one, l.other) l.pairs → Has (l.one, l.other) (drop l.pair-index l.pairs)
