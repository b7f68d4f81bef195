use Rattle.std.proofs.Common.{◌≡◌, ◌++◌, map, take}
use Rattle.merc_rights.proofs.occurrences.put_all.Given as goal

abbrev pub invariant-loop-variable : goal.invariant-loop-variable
invariant-loop-variable l = l.pairs.items ≡ l.fn.pairs.items ++ map (λ variable. (variable, l.number)) (take l.variable-index l.variables)
