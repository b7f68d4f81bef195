use Rattle.merc_det.proofs.Faulting.{beside_step}
use Rattle.merc_det.proofs.faults.beside_fault.Goals as goal

pub loop-conjunct-preserved : goal.loop-conjunct-preserved
loop-conjunct-preserved c =
    beside_step c.args.conjuncts c.loop-conjunct.left c.take_last.new.self c.in-Some.conjunct c.loop-conjunct.number c.loop-conjunct.found c.in_ok-conjunct_fault.field-0 c.first_of-found.result
    c.loop-conjunct.invariant c.in-Some.ensures c.in_ok-conjunct_fault.ensures c.first_of-found.ensures
