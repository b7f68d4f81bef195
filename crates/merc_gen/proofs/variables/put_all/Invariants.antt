use Rattle.std.proofs.Common.{◌≡◌, ◌++◌, drop}
use Rattle.merc_gen.proofs.variables.put_all.Given as goal

abbrev pub invariant-loop-variable : goal.invariant-loop-variable
invariant-loop-variable l = l.variables ++ drop l.variable-index l.others ≡ l.fn.variables ++ l.others
