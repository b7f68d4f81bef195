use Rattle.std.proofs.Common.{ℕ, List, ◌++◌, take}
use Rattle.merc_flat.specs.Counted.{HasThese, own}
use Rattle.merc_flat.proofs.counting.add_variables.Given as goal

abbrev pub invariant-loop-variable : goal.invariant-loop-variable
invariant-loop-variable l = (numbers : List ℕ) → HasThese l.fn.found numbers → HasThese l.found (numbers ++ own l.arity (take l.variable-index l.variables))
