use Rattle.std.proofs.Common.{length}
use Rattle.merc_det.proofs.Faulting.{Beside}
use Rattle.merc_det.proofs.faults.beside_fault.Given as goal

abbrev pub invariant-loop-conjunct : goal.invariant-loop-conjunct
invariant-loop-conjunct l = Beside l.fn.conjuncts l.left l.number l.found

abbrev pub decreases-loop-conjunct : goal.decreases-loop-conjunct
decreases-loop-conjunct l = length l.left
