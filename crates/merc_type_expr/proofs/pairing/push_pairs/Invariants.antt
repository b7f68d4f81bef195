use Rattle.std.proofs.Common.{◌≡◌, length}
use Rattle.merc_type_expr.specs.Solving.{zipped}
use Rattle.merc_type_expr.proofs.Lists.{AddsBut}
use Rattle.merc_type_expr.proofs.pairing.push_pairs.Given as goal

abbrev pub invariant-loop-one : goal.invariant-loop-one
invariant-loop-one l = record {
  count : length l.ones ≡ length l.others;
  adds : AddsBut (zipped l.ones l.others) (zipped l.initial.ones l.initial.others) l.initial.pairs.items l.pairs.items;
}

abbrev pub decreases-loop-one : goal.decreases-loop-one
decreases-loop-one l = length l.ones
