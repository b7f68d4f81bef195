use Rattle.std.proofs.Common.{◌≡◌, ◌++◌, drop, map}
use Rattle.merc_scopes.specs.declared.occurrence.Occurrence.{Occurrence}
use Rattle.merc_check.proofs.checking.numbers_of.Given as goal

abbrev pub invariant-loop-variable : goal.invariant-loop-variable
invariant-loop-variable l = l.numbers.items ++ map (λ (variable : Occurrence). variable.at) (drop l.variable-index l.variables) ≡ map (λ (variable : Occurrence). variable.at) l.variables
