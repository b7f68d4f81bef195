use Rattle.std.proofs.Common.{◌≡◌, map, take}
use Rattle.merc_rights.specs.Groups.{held_variables}
use Rattle.merc_rights.proofs.conjuncts.set_of_held.Given as goal

abbrev pub invariant-loop-group : goal.invariant-loop-group
invariant-loop-group l = l.pairs.items ≡ map (λ variable. (variable, 0)) (held_variables (take l.group-index l.groups))
