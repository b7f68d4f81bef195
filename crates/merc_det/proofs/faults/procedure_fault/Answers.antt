use Rattle.merc_grading.specs.Faults.{own_faults, parallel_faults}
use Rattle.merc_det.proofs.faults.procedure_fault.Goals as goal

pub returns : goal.returns
returns c =
    c.first_of.ensures (own_faults c.args.unit.now c.args.mode.now c.args.tree.now) (parallel_faults c.args.tree.now)
    c.declaration_fault.ensures c.in_ok-inner.ensures
