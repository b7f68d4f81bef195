-- The types `int`, `A`, `B`, `7` and `7(int)` by their numbers, and pairs of type variables.
use Rattle.std.specs.Prelude.{◌≡◌, ℕ, ◌<◌, List, [], ◌∷◌}
use Rattle.std.specs.Map.{lookup}
use Rattle.std.specs.Option.{IfSome}
use Rattle.std.specs.Ordering.{nat_cmp}
use Rattle.std.specs.BTreeMap.{IsEmpty, is_at}
use Rattle.std.proofs.Common.{refl, subst, arith}
use Rattle.merc_tree.specs.Types.{TypeExpr, TypeVariable, IntType, TextType, TypeApplication, no_types, more_types}
use Rattle.merc_type_matching.specs.Linked.{Agree}
use Rattle.merc_type_matching.specs.LinkedExamples.{each_entry}
use Rattle.merc_type_matching.specs.Matched.{AgreeOn}
use Rattle.merc_type_matching.specs.Matching.{left_weight, AddsPair, AreAlike, AreFound, AreThere, IsMet, IsSplit, IsVariable, Matches}
use Rattle.merc_type_matching.specs.declared.matching.NamePair.{NamePair}
use Rattle.merc_type_matching.specs.declared.matching.NumberPair.{NumberPair}
use Rattle.merc_type_matching.specs.declared.matching.IndependentPairs.{IndependentPairs}

abbrev ints : ℕ → TypeExpr
ints name = IntType

abbrev texts : ℕ → TypeExpr
texts name = TextType

-- the name 1 of the first side and the name 0 of the second
abbrev one_zero : List NamePair
one_zero = record { one = 1; other = 0 } ∷ []

-- only these are linked
abbrev AreLinked : IndependentPairs → Type 0
AreLinked found = IsEmpty found.linked.lesser × (found.linked.beside.entries ≡ (0, 1) ∷ [])

linked_agree : (found : IndependentPairs) → AreLinked found → (one other : ℕ → TypeExpr) → one 1 ≡ other 0 → Agree found.linked one other
linked_agree found is one other same = record {
  lesser = λ name. rw (is.0) tt;
  beside = λ name. rw (is.1) (each_entry (λ name first. one first ≡ other name) ((0, 1) ∷ []) (same, tt) name);
}

agree_linked : (found : IndependentPairs) → AreLinked found → (one other : ℕ → TypeExpr) → Agree found.linked one other → one 1 ≡ other 0
agree_linked found is one other agree =
    subst (λ (es : List (ℕ × ℕ)). IfSome (lookup (is_at (nat_cmp 0)) es) (λ first. one first ≡ other 0)) (is.1) (agree.beside 0)

-- the pair says so, or no pair does
IsMet-one : (found : IndependentPairs) → AreLinked found → found.pairs ≡ one_zero → IsMet found
IsMet-one found is pairs = record {
  falling = λ name. rw (is.0) tt;
  same = λ one other. (
    (λ agree. linked_agree found is one other (subst (AgreeOn one other) pairs agree).0),
    (λ agree. rw pairs (agree_linked found is one other agree, tt)),
  );
}

IsMet-none : (found : IndependentPairs) → AreLinked found → found.pairs ≡ [] → IsMet found → ⊥
IsMet-none found is pairs met = let same : IntType ≡ TextType = agree_linked found is ints texts ((met.same ints texts).0 (rw pairs tt)) in cc

-- the pair is added to an empty list, or follows from itself, or is left out
AddsPair-first : (old new : IndependentPairs) → IsMet new → old.pairs ≡ [] → new.pairs ≡ one_zero → AddsPair old new 1 0
AddsPair-first old new met none pairs = record {
  met = met;
  pairs = λ one other. ((λ agree. (rw none tt, (subst (AgreeOn one other) pairs agree).0)), (λ both. rw pairs (both.1, tt)));
}

AddsPair-again : (found : IndependentPairs) → IsMet found → found.pairs ≡ one_zero → AddsPair found found 1 0
AddsPair-again found met pairs = record {
  met = met;
  pairs = λ one other. ((λ agree. (agree, (subst (AgreeOn one other) pairs agree).0)), (λ both. both.0));
}

AddsPair-none : (old new : IndependentPairs) → new.pairs ≡ [] → AddsPair old new 1 0 → ⊥
AddsPair-none old new none adds = let same : IntType ≡ TextType = ((adds.pairs ints texts).0 (rw none tt)).1 in cc

abbrev types : List TypeExpr
types = IntType ∷ TypeVariable 8 ∷ TypeVariable 9 ∷ TypeApplication 7 no_types ∷ TypeApplication 7 (more_types IntType no_types) ∷ []

abbrev pair_of : ℕ → ℕ → NumberPair
pair_of one other = record { one = one; other = other }

-- where A is `int` and B is `string`, `int` is the same twice, and `A` and `B` are not
AreAlike-closed : AreAlike types ints texts (pair_of 0 0 ∷ [])
AreAlike-closed = (refl, tt)

AreAlike-apart : AreAlike types ints texts (pair_of 1 2 ∷ []) → ⊥
AreAlike-apart are = let same : IntType ≡ TextType = are.0 in cc

AreThere-last : AreThere types (pair_of 0 4 ∷ [])
AreThere-last = (omega arith, omega arith, tt)

AreThere-behind : AreThere types (pair_of 0 5 ∷ []) → ⊥
AreThere-behind are = let less : 5 < 5 = are.1 in omega arith

left_weight-two : left_weight types (pair_of 1 2 ∷ pair_of 0 0 ∷ []) ≡ 2
left_weight-two = refl

-- `A` and `B` are left to match, or are forgotten
AreFound-first : (found : IndependentPairs) → IsMet found → found.pairs ≡ [] → AreFound types found (pair_of 1 2 ∷ []) (pair_of 1 2)
AreFound-first found met none = record {
  met = met;
  there = (omega arith, omega arith, tt);
  alike = λ one other. ((λ both. both.1.0), (λ same. (rw none tt, (same, tt))));
}

AreFound-none : (found : IndependentPairs) → found.pairs ≡ [] → AreFound types found [] (pair_of 1 2) → ⊥
AreFound-none found none are = let same : IntType ≡ TextType = (are.alike ints texts).0 (rw none tt, tt) in cc

-- of `int` twice nothing is added; nothing is of `A` and `B`
Matches-closed : (found : IndependentPairs) → IsMet found → Matches types (pair_of 0 0) found found [] []
Matches-closed found met = record {
  met = met;
  there = λ there. there;
  alike = λ one other. ((λ both. (both.0, tt, refl)), (λ all. (all.0, tt)));
  less = omega arith;
}

Matches-none : (found : IndependentPairs) → found.pairs ≡ [] → Matches types (pair_of 1 2) found found [] [] → ⊥
Matches-none found none matches = let same : IntType ≡ TextType = ((matches.alike ints texts).0 (rw none tt, tt)).2 in cc

-- `A` beside `B`, and beside `int`
IsVariable-another : (old new : IndependentPairs) → AddsPair old new 8 9 → IsVariable types 8 2 old new
IsVariable-another old new adds = record { other = 9; is = refl; adds = adds }

IsVariable-int : (old new : IndependentPairs) → IsVariable types 8 0 old new → ⊥
IsVariable-int old new is = let same : IntType ≡ TypeVariable is.other = is.is in cc

-- `7(int)` beside itself leaves `7` and `int`, each beside itself, and not nothing
IsSplit-both : IsSplit types 0 3 4 [] (pair_of 3 3 ∷ pair_of 0 0 ∷ [])
IsSplit-both = record { other_first = 0; other_rest = 3; is = refl; smaller = (omega arith, omega arith); complete = refl; more = refl }

IsSplit-none : IsSplit types 0 3 4 [] [] → ⊥
IsSplit-none is = let none : [] ≡ pair_of 3 is.other_rest ∷ pair_of 0 is.other_first ∷ [] = is.more in cc
