use Rattle.merc_bodies.proofs.PartVariables.{one_variable}
use Rattle.merc_bodies.proofs.Parts.{item_left}
use Rattle.merc_bodies.proofs.occurrences.add_variables.Goals as goal

pub loop-variable-preserved : goal.loop-variable-preserved
loop-variable-preserved c =
    one_variable c.args.arity c.variable-item.result _ _ _ _ _
    (item_left c.args.variables.now c.loop-variable.variable-index c.variable-item.result c.loop-variable-test.true c.variable-item.is)
    c.in_ok-add_variable.ensures c.loop-variable.invariant
