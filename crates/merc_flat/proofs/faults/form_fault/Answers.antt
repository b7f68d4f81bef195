use Rattle.merc_flat.proofs.FormLaws.{form_fault-by}
use Rattle.merc_flat.proofs.faults.form_fault.Goals as goal

pub returns : goal.returns
returns c =
    form_fault-by c.args.arity c.args.span c.args.goal.now c.args.flat.now c.first_fault.result c.in_ok-first.first c.width_fault-other.result c.first_of_two.result
    c.widest_parallel.result c.first_fault.ensures c.in_ok-first.ensures c.widest_parallel.ensures c.width_fault-other.ensures c.first_of_two.ensures
