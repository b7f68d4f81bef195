use Rattle.std.proofs.Common.{◌≡◌, ◌++◌, map, drop}
use Rattle.merc_items.specs.ModuleOf.{declared_type}
use Rattle.merc_items.proofs.declared_types.declared_types.Given as goal

abbrev pub invariant-loop-term : goal.invariant-loop-term
invariant-loop-term l = l.types ++ map (declared_type l.names) (drop l.term-index l.terms) ≡ map (declared_type l.names) l.terms
