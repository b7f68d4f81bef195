-- What the calls of a graph do to its equations, by example.
use Rattle.std.specs.Prelude.{◌≡◌, ℕ, ◌+◌, ◌<◌, zero, suc, true, false, [], ◌∷◌, refl}
use Rattle.std.proofs.Common.{ap, sym, arith}
use Rattle.merc_tree.specs.Types.{TypeExpr, IntType, TextType, TypeApplication, no_types, more_types}
use Rattle.merc_type_graph.specs.Solutions.{Unknown, WholeEntry, Applied, Link, Agrees}
use Rattle.merc_type_graph.specs.Changes.{AllWithin, Adds, MakesEqual, MakesWhole, Decides}
use Rattle.merc_type_graph.specs.Visiting.{size}

abbrev all_ints : ℕ → TypeExpr
all_ints place = IntType

abbrev all_texts : ℕ → TypeExpr
all_texts place = TextType

-- `pair(int, string)`, then `int`, then `string`
abbrev pair_types : ℕ → TypeExpr
pair_types zero = TypeApplication 7 (more_types IntType (more_types TextType no_types))
pair_types (suc zero) = IntType
pair_types (suc (suc place)) = TextType

-- arguments keep their order
Agrees-order : Agrees pair_types 0 (Applied 7 (1 ∷ 2 ∷ []))
Agrees-order = refl

Agrees-exchanged : Agrees pair_types 0 (Applied 7 (2 ∷ 1 ∷ [])) → ⊥
Agrees-exchanged agrees =
    let same : TypeApplication 7 (more_types IntType (more_types TextType no_types)) ≡ TypeApplication 7 (more_types TextType (more_types IntType no_types)) = agrees in
    let wrong : IntType ≡ TextType = cc in cc

Agrees-link : Agrees pair_types 1 (Link 2) → ⊥
Agrees-link agrees = let wrong : IntType ≡ TextType = agrees in cc

-- places are counted from 0
AllWithin-yes : AllWithin 3 (2 ∷ 0 ∷ [])
AllWithin-yes = (omega arith, (omega arith, tt))

AllWithin-later : AllWithin 3 (0 ∷ 3 ∷ []) → ⊥
AllWithin-later within = let less : 3 < 3 = within.1.0 in omega arith

-- `int` stands behind `string`
Adds-behind : Adds (WholeEntry TextType ∷ []) (WholeEntry TextType ∷ WholeEntry IntType ∷ []) (WholeEntry IntType)
Adds-behind = λ types. ((λ solves. ((solves.0, tt), solves.1.0)), (λ both. (both.0.0, (both.1, tt))))

-- nothing is known of the new place; it is the old place of which `int` is known; something is known of the old place too
Adds-unknown : Adds (Unknown ∷ []) (Unknown ∷ Unknown ∷ []) (WholeEntry IntType) → ⊥
Adds-unknown adds = let wrong : TextType ≡ IntType = ((adds all_texts).0 (tt, (tt, tt))).1 in cc

abbrev int_and_texts : ℕ → TypeExpr
int_and_texts zero = IntType
int_and_texts (suc place) = TextType

Adds-before : Adds (Unknown ∷ []) (WholeEntry IntType ∷ Unknown ∷ []) (WholeEntry IntType) → ⊥
Adds-before adds = let wrong : TextType ≡ IntType = ((adds int_and_texts).0 (refl, (tt, tt))).1 in cc

Adds-too_much : Adds (Unknown ∷ []) (WholeEntry TextType ∷ WholeEntry IntType ∷ []) (WholeEntry IntType) → ⊥
Adds-too_much adds = let wrong : IntType ≡ TextType = ((adds all_ints).1 ((tt, tt), refl)).0 in cc

-- the second place is given `int`, and the first keeps `string`
MakesWhole-yes : MakesWhole true (WholeEntry TextType ∷ Unknown ∷ []) (WholeEntry TextType ∷ WholeEntry IntType ∷ []) 1 IntType
MakesWhole-yes = (refl, (λ types. ((λ solves. ((solves.0, (tt, tt)), solves.1.0)), (λ both. (both.0.0, (both.1, tt))))))

MakesWhole-unknown : MakesWhole true (Unknown ∷ []) (Unknown ∷ []) 0 IntType → ⊥
MakesWhole-unknown makes = let wrong : TextType ≡ IntType = ((makes.1 all_texts).0 (tt, tt)).1 in cc

-- the second place is made equal to the first, which keeps `int`
MakesEqual-known : MakesEqual true (WholeEntry IntType ∷ Unknown ∷ []) (WholeEntry IntType ∷ Link 0 ∷ []) 0 1
MakesEqual-known = (refl, (λ types. ((λ solves. ((solves.0, (tt, tt)), sym (solves.1.0))), (λ both. (both.0.0, (sym (both.1), tt))))))

-- another place was added
MakesWhole-longer : MakesWhole true (Unknown ∷ []) (WholeEntry IntType ∷ Unknown ∷ []) 0 IntType → ⊥
MakesWhole-longer makes = let same : ◌≡◌ {A = ℕ} 2 1 = makes.0 in omega arith

MakesEqual-longer : MakesEqual true (Unknown ∷ Unknown ∷ []) (Link 1 ∷ Unknown ∷ Unknown ∷ []) 0 1 → ⊥
MakesEqual-longer makes = let same : ◌≡◌ {A = ℕ} 3 2 = makes.0 in omega arith

-- it cannot be, and it can
MakesWhole-clash : MakesWhole false (WholeEntry TextType ∷ []) [] 0 IntType
MakesWhole-clash = λ types solves int. let text : types 0 ≡ TextType = solves.0 in absurd (cc)

MakesWhole-possible : MakesWhole false (Unknown ∷ []) [] 0 IntType → ⊥
MakesWhole-possible none = none all_ints (tt, tt) refl

MakesEqual-possible : MakesEqual false (Unknown ∷ Unknown ∷ []) [] 0 1 → ⊥
MakesEqual-possible none = none all_ints (tt, (tt, tt)) refl

-- no type is an argument of itself
no_type : (types : ℕ → TypeExpr) → types 0 ≡ TypeApplication 7 (more_types (types 0) no_types) → ⊥
no_type types is = let sizes : size (types 0) ≡ suc (size (types 0) + 0) = ap size is in omega arith

Decides-none : Decides false (Applied 7 (0 ∷ []) ∷ [])
Decides-none = λ types solves. no_type types (solves.0)

Decides-some : Decides true (Applied 7 (0 ∷ []) ∷ []) → ⊥
Decides-some some = no_type some.0 (some.1.0)
