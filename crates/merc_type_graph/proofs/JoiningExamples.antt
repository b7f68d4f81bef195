-- What private functions of a graph compute, by example.
use Rattle.std.specs.Prelude.{◌≡◌, [], ◌∷◌, map, Some, None, refl}
use Rattle.merc_tree.specs.Types.{IntType, TypeVariable, TypeApplication, no_types, more_types}
use Rattle.merc_type_graph.specs.Solutions.{Unknown, WholeEntry, Applied, Link}
use Rattle.merc_type_graph.specs.Cells.{needs_of, blank, rank_at, root_mark, roots}
use Rattle.merc_type_graph.specs.Joining.{joined, zipped, attached}
use Rattle.merc_type_graph.specs.Visiting.{size}
use Rattle.merc_type_graph.specs.declared.cell.Known.TheVariants.{Nothing, Whole, Named, SameAs}

needs_of-each : map needs_of (Unknown ∷ WholeEntry IntType ∷ Applied 7 (3 ∷ 1 ∷ []) ∷ Link 2 ∷ []) ≡ [] ∷ [] ∷ (3 ∷ 1 ∷ []) ∷ (2 ∷ []) ∷ []
needs_of-each = refl

root_mark-each : map root_mark (Nothing ∷ Whole 0 ∷ Named 7 0 2 ∷ SameAs 0 ∷ []) ≡ 1 ∷ 1 ∷ 1 ∷ 0 ∷ []
root_mark-each = refl

-- arguments of the first are kept; names and numbers of arguments have to be the same
joined-some : joined (Named 7 0 2) (Named 7 3 2) ∷ joined Nothing (Named 7 3 2) ∷ joined (Named 7 3 2) Nothing ∷ [] ≡ Some (Named 7 0 2) ∷ Some (Named 7 3 2) ∷ Some (Named 7 3 2) ∷ []
joined-some = refl

joined-none : joined (Named 7 0 2) (Named 8 3 2) ∷ joined (Named 7 0 2) (Named 7 3 1) ∷ joined (Named 7 0 0) (Whole 0) ∷ joined (Whole 0) Nothing ∷ [] ≡ None ∷ None ∷ None ∷ None ∷ []
joined-none = refl

zipped-shorter : zipped (1 ∷ 2 ∷ 3 ∷ []) (4 ∷ 5 ∷ []) ≡ (1, 4) ∷ (2, 5) ∷ []
zipped-shorter = refl

-- the first place leads to the second, whose rank is above its own
attached-rank : attached (blank ∷ blank ∷ []) 0 1 (Whole 4) ≡ record { known = SameAs 1; rank = 0 } ∷ record { known = Whole 4; rank = 1 } ∷ []
attached-rank = refl

attached-higher : rank_at (attached (blank ∷ record { known = Nothing; rank = 3 } ∷ []) 0 1 Nothing) 1 ≡ 3
attached-higher = refl

attached-roots : roots (attached (blank ∷ blank ∷ blank ∷ []) 0 1 Nothing) ≡ 2
attached-roots = refl

size-each : map size (IntType ∷ TypeVariable 8 ∷ TypeApplication 7 no_types ∷ TypeApplication 7 (more_types IntType (more_types (TypeApplication 7 no_types) no_types)) ∷ []) ≡ 1 ∷ 1 ∷ 1 ∷ 3 ∷ []
size-each = refl
