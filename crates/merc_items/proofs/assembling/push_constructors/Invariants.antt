use Rattle.std.proofs.Common.{◌≡◌, ◌++◌, map, drop}
use Rattle.merc_items.specs.ModuleOf.{constructor_of}
use Rattle.merc_items.proofs.assembling.push_constructors.Given as goal

abbrev pub invariant-loop-term : goal.invariant-loop-term
invariant-loop-term l = l.constructors ++ map (constructor_of l.names) (drop l.term-index l.terms) ≡ l.fn.constructors ++ map (constructor_of l.names) l.terms
