-- Pairs of type variables that are kept of declared types which were matched.
use Rattle.std.specs.Prelude.{◌≡◌, List, [], ◌∷◌}
use Rattle.std.specs.Map.{lookup}
use Rattle.std.specs.Option.{IfSome}
use Rattle.std.specs.Ordering.{nat_cmp, ordering_then}
use Rattle.std.specs.BTreeMap.{get, is_at}
use Rattle.std.proofs.Common.{Ordering, subst}
use Rattle.merc_tree.specs.Types.{TypeExpr, TypeVariable, IntType, TextType}
use Rattle.merc_type_table.specs.Table.{type_at}
use Rattle.merc_type_matching.specs.Matched.{AreMatched}
use Rattle.merc_type_matching.specs.declared.matching.NamePair.{NamePair}
use Rattle.merc_type_matching.specs.declared.matching.NumberPair.{NumberPair}
use Rattle.merc_type_matching.specs.declared.matchings.Matchings.{Matchings}

abbrev pub compare_numbers : NumberPair → NumberPair → Ordering
compare_numbers a b = ordering_then (nat_cmp a.one b.one) (nat_cmp a.other b.other)

-- the pairs that are kept are those of the two types
abbrev pub AreKept : List TypeExpr → Matchings → Type 0
AreKept table matchings = (key : NumberPair) → IfSome (get compare_numbers matchings.pairs key) (λ pairs. AreMatched pairs (type_at table key.one) (type_at table key.other))

-- of no types are pairs kept
AreKept-none : (table : List TypeExpr) (matchings : Matchings) → matchings.pairs.entries ≡ [] → AreKept table matchings
AreKept-none table matchings none = λ key. rw none tt

-- of `A` and `B` no pair is kept, which make them the same only where A and B are
abbrev both : NumberPair
both = record { one = 0; other = 1 }

AreKept-few : (matchings : Matchings) → matchings.pairs.entries ≡ (both, []) ∷ [] → AreKept (TypeVariable 8 ∷ TypeVariable 9 ∷ []) matchings → ⊥
AreKept-few matchings entries are =
    let matched : AreMatched [] (TypeVariable 8) (TypeVariable 9) =
    subst (λ (es : List (NumberPair × List NamePair)). IfSome (lookup (is_at (compare_numbers both)) es) (λ pairs. AreMatched pairs (TypeVariable 8) (TypeVariable 9))) entries (are both) in
    let same : IntType ≡ TextType = (matched (λ name. IntType) (λ name. TextType)).0 tt in
    cc
