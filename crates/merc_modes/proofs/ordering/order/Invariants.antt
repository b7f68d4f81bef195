use Rattle.std.proofs.Common.{take}
use Rattle.merc_order.specs.Procedures.{modes_of, procedure_faults, procedure_trees}
use Rattle.merc_modes.specs.Bodies.{AreFound}
use Rattle.merc_modes.proofs.ordering.order.Given as goal

abbrev pub invariant-loop-index : goal.invariant-loop-index
invariant-loop-index l =
    AreFound (procedure_faults (modes_of l.predicates) (take l.index l.predicates) l.bodies) (procedure_trees (modes_of l.predicates) (take l.index l.predicates) l.bodies) l.found
