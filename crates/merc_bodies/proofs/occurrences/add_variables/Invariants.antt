use Rattle.std.proofs.Common.{◌≡◌, ◌++◌, drop}
use Rattle.merc_bodies.specs.Occurrences.{own_in}
use Rattle.merc_bodies.proofs.occurrences.add_variables.Given as goal

abbrev pub invariant-loop-variable : goal.invariant-loop-variable
invariant-loop-variable l = l.own.items ++ own_in l.arity (drop l.variable-index l.variables) ≡ l.fn.own.items ++ own_in l.arity l.variables
