use Rattle.std.proofs.Common.{◌≡◌, map, take}
use Rattle.merc_rights.specs.Rights.{right_to}
use Rattle.merc_par_split.proofs.placing.parent_waits.Given as goal

abbrev pub invariant-loop-variable : goal.invariant-loop-variable
invariant-loop-variable l = l.rights ≡ map (right_to 0) (take l.variable-index l.outputs)
