use Rattle.std.proofs.Common.{◌≡◌, ◌++◌, drop}
use Rattle.merc_items.specs.ModuleOf.{parameters}
use Rattle.merc_items.proofs.assembling.parameters.Given as goal

abbrev pub invariant-loop-term : goal.invariant-loop-term
invariant-loop-term l = l.variables ++ parameters l.names (drop l.term-index l.terms) ≡ parameters l.names l.terms
