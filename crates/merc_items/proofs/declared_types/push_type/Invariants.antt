use Rattle.std.proofs.Common.{◌≡◌, ◌++◌, ◌∷◌, [], drop}
use Rattle.merc_tree.specs.PlacedParts.{placed_parts}
use Rattle.merc_items.specs.ModuleOf.{declared_type}
use Rattle.merc_items.specs.DeclaredTypes.{with_parts, AreParts}
use Rattle.merc_items.proofs.declared_types.push_type.Given as goal

abbrev pub invariant-loop-index : goal.invariant-loop-index
invariant-loop-index l = record {
  parts : AreParts l.names (drop l.index (placed_parts l.term)) l.types;
  types : with_parts l.names (drop l.index (placed_parts l.term)) l.types ≡ l.initial.types ++ declared_type l.names l.term ∷ [];
}
