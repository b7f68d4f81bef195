-- Equations, by example.
use Rattle.std.specs.Prelude.{◌≡◌, ℕ, true, false, zero, suc, List, [], ◌∷◌, refl}
use Rattle.merc_tree.specs.Types.{TypeExpr, TypeVariable, IntType, TextType, TypeApplication, no_types, more_types}
use Rattle.merc_type_graph.specs.Solutions.{Entry, Unknown, WholeEntry, Applied, Link, Solves}
use Rattle.merc_type_graph.specs.Changes.{Decides, MakesEqual}

-- a list of what stands at place 1, which is `int`
abbrev list_of_int : List Entry
list_of_int = Applied 7 (1 ∷ []) ∷ WholeEntry IntType ∷ []

-- `list(int)` first, then `int`
abbrev its_types : ℕ → TypeExpr
its_types zero = TypeApplication 7 (more_types IntType no_types)
its_types (suc n) = IntType

Solves-yes : Solves list_of_int its_types
Solves-yes = (refl, (refl, tt))

-- nothing else is at place 1
Solves-not : (types : ℕ → TypeExpr) → types 1 ≡ TextType → Solves list_of_int types → ⊥
Solves-not types text solves = let int : types 1 ≡ IntType = solves.1.0 in absurd (cc)

-- a link, and a whole type that is a type variable
abbrev linked_types : ℕ → TypeExpr
linked_types zero = TypeVariable 3
linked_types (suc zero) = TypeVariable 3
linked_types (suc (suc n)) = TextType

Solves-link : Solves (Link 1 ∷ WholeEntry (TypeVariable 3) ∷ Unknown ∷ WholeEntry TextType ∷ []) linked_types
Solves-link = (refl, (refl, (tt, (refl, tt))))

-- It is decided that there are types for these, and not that there are none.
Decides-yes : Decides true list_of_int
Decides-yes = (its_types, Solves-yes)

Decides-not : Decides false list_of_int → ⊥
Decides-not none = none its_types Solves-yes

-- two unknown types made equal by a link from one to the other, and `int` made equal to nothing by a change that is none
MakesEqual-yes : MakesEqual true (Unknown ∷ Unknown ∷ []) (Link 1 ∷ Unknown ∷ []) 0 1
MakesEqual-yes = (refl, (λ types. ((λ solves. ((tt, (tt, tt)), solves.0)), (λ both. (both.1, (tt, tt))))))

abbrev int_and_text : ℕ → TypeExpr
int_and_text zero = IntType
int_and_text (suc n) = TextType

MakesEqual-not : MakesEqual true (WholeEntry IntType ∷ Unknown ∷ []) (WholeEntry IntType ∷ Unknown ∷ []) 0 1 → ⊥
MakesEqual-not makes =
    let same : IntType ≡ TextType = ((makes.1 int_and_text).0 (refl, (tt, tt))).1 in absurd (cc)

clash : MakesEqual false (WholeEntry IntType ∷ WholeEntry TextType ∷ []) (WholeEntry IntType ∷ WholeEntry TextType ∷ []) 0 1
clash types solves same = let int : types 0 ≡ IntType = solves.0 in let text : types 1 ≡ TextType = solves.1.0 in absurd (cc)
