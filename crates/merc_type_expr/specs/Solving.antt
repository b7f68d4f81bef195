-- How the equations of types are solved, step by step.
use Rattle.std.specs.Prelude.{◌≡◌, ◌<◌, ℕ, suc, ◌+◌, Bool, true, false, ◌==◌, ◌||◌, ◌⊎◌, List, [], ◌∷◌, ◌++◌, take, Option, Some, None, if◌then◌else◌}
use Rattle.merc_tree.specs.Types.{TypeExpr, TypeExprs, TypeVariable, IntType, TextType, TypeApplication, no_types, more_types, replaced}
use Rattle.merc_type_expr.specs.Unifier.{Bindings, bound_to, Solves, Unifies, IsMostGeneral, IsSolvable, IsUnifier}

-- an element of a list
abbrev pub Has : {A : Type 0} → A → List A → Type 0
Has x [] = ⊥
Has x (first ∷ rest) = (first ≡ x) ⊎ Has x rest

-- how large a type is
abbrev mutual
  pub size : TypeExpr → ℕ
  size (TypeVariable name) = 1
  size IntType = 1
  size TextType = 1
  size (TypeApplication name arguments) = suc (sizes arguments)

  pub sizes : TypeExprs → ℕ
  sizes no_types = 0
  sizes (more_types first rest) = size first + sizes rest

-- whether a variable occurs in a type
abbrev mutual
  pub occurs : ℕ → TypeExpr → Bool
  occurs name (TypeVariable other) = other == name
  occurs name IntType = false
  occurs name TextType = false
  occurs name (TypeApplication symbol arguments) = occurs_among name arguments

  pub occurs_among : ℕ → TypeExprs → Bool
  occurs_among name no_types = false
  occurs_among name (more_types first rest) = occurs name first || occurs_among name rest

-- the name of a variable
abbrev pub variable_of : TypeExpr → Option ℕ
variable_of (TypeVariable name) = Some name
variable_of IntType = None
variable_of TextType = None
variable_of (TypeApplication name arguments) = None

-- whether a type is this variable
abbrev pub is_variable : TypeExpr → ℕ → Bool
is_variable (TypeVariable other) name = name == other
is_variable IntType name = false
is_variable TextType name = false
is_variable (TypeApplication symbol arguments) name = false

-- a type, where the variable of this binding is replaced by what it is bound to
abbrev pub followed : (ℕ × TypeExpr) → TypeExpr → TypeExpr
followed binding type = if is_variable type binding.0 then binding.1 else type

-- where a type leads, one binding after the other
abbrev pub walked : Bindings → TypeExpr → TypeExpr
walked [] type = type
walked (binding ∷ rest) type = walked rest (followed binding type)

-- a type that is no bound variable
abbrev pub IsRoot : Bindings → TypeExpr → Type 0
IsRoot bindings type = (name : ℕ) → type ≡ TypeVariable name → bound_to bindings name ≡ None

-- A substitution: types lead to types that are no bound variables, and it has a solution.
pub record IsSubst (bindings : Bindings) : Type 0 where
  pub ends : (type : TypeExpr) → IsRoot bindings (walked bindings type)
  pub solvable : IsSolvable bindings

-- pairs of types that are to be made equal
abbrev pub Pairs : Type 0
Pairs = List (TypeExpr × TypeExpr)

abbrev pub IsSame : (ℕ → TypeExpr) → TypeExpr × TypeExpr → Type 0
IsSame values pair = replaced values pair.0 ≡ replaced values pair.1

-- the pairs of two lists of one length
abbrev pub zipped : List TypeExpr → List TypeExpr → Pairs
zipped [] others = []
zipped (first ∷ rest) [] = []
zipped (first ∷ rest) (other ∷ others) = (first, other) ∷ zipped rest others

-- Elements that were not there are put behind others.
pub record Adds {A : Type 0} (elements old new : List A) : Type 0 where
  pub added : List A
  pub grown : new ≡ old ++ added
  pub has : (x : A) → Has x elements → Has x new
  pub only : (x : A) → Has x added → Has x elements

-- A variable is bound to a type, or is that type already: what solves the new bindings solves the old ones and makes both equal.
pub record Binds (old new : Bindings) (name : ℕ) (type : TypeExpr) : Type 0 where
  pub subst : IsSubst new
  pub needed : (values : ℕ → TypeExpr) → Solves values old → values name ≡ replaced values type → Solves values new
  pub solves : (values : ℕ → TypeExpr) → Solves values new → Solves values old
  pub enough : (values : ℕ → TypeExpr) → Solves values new → values name ≡ replaced values type

-- nothing that solves the bindings makes two types equal
abbrev pub Differ : Bindings → TypeExpr → TypeExpr → Type 0
Differ bindings one other = (values : ℕ → TypeExpr) → Solves values bindings → replaced values one ≡ replaced values other → ⊥

-- Two types are equal where bindings are solved and smaller pairs are equal.
pub record Settles (old new : Bindings) (pairs after : Pairs) (one other : TypeExpr) : Type 0 where
  pub subst : IsSubst new
  pub added : Pairs
  pub grown : after ≡ pairs ++ added
  pub solves : (values : ℕ → TypeExpr) → Solves values new → Solves values old
  pub needed : (values : ℕ → TypeExpr) → Solves values old → replaced values one ≡ replaced values other
      → Solves values new × ((pair : TypeExpr × TypeExpr) → Has pair added → IsSame values pair)
  pub enough : (values : ℕ → TypeExpr) → Solves values new
      → ((pair : TypeExpr × TypeExpr) → Has pair after → size (replaced values pair.0) < size (replaced values one) → IsSame values pair)
      → replaced values one ≡ replaced values other

-- what an attempt to bind a variable, or to make two types equal, comes to
abbrev pub BindsOrDiffer : Bool → Bindings → Bindings → ℕ → TypeExpr → Type 0
BindsOrDiffer true old new name type = Binds old new name type
BindsOrDiffer false old new name type = Differ old (TypeVariable name) type

abbrev pub SettlesOrDiffer : Bool → Bindings → Bindings → Pairs → Pairs → TypeExpr → TypeExpr → Type 0
SettlesOrDiffer true old new pairs after one other = Settles old new pairs after one other
SettlesOrDiffer false old new pairs after one other = Differ old one other

-- What solves the bindings makes those of these pairs equal whose first types are smaller than this.
abbrev pub AreSameBelow : (ℕ → TypeExpr) → ℕ → Pairs → Type 0
AreSameBelow values bound pairs = (pair : TypeExpr × TypeExpr) → Has pair pairs → size (replaced values pair.0) < bound → IsSame values pair

-- So many pairs have been settled on the way to make two types equal.
pub record IsSolving (under bindings : Bindings) (a b : TypeExpr) (pairs : Pairs) (settled : ℕ) : Type 0 where
  pub subst : IsSubst bindings
  pub asked : Has (a, b) pairs
  pub solves : (values : ℕ → TypeExpr) → Solves values bindings → Solves values under
  pub needed : (values : ℕ → TypeExpr) → Unifies values a b under → Solves values bindings × ((pair : TypeExpr × TypeExpr) → Has pair pairs → IsSame values pair)
  pub enough : (values : ℕ → TypeExpr) → Solves values bindings → (bound : ℕ) → AreSameBelow values bound pairs → AreSameBelow values (suc bound) (take settled pairs)

-- A substitution that goes on from another is the most general unifier of two types under it.
pub record Solved (under found : Bindings) (a b : TypeExpr) : Type 0 where
  pub subst : IsSubst found
  pub unifier : IsUnifier found a b under

-- So many types have been looked at in the search for a variable in a type.
pub record IsSearching (bindings : Bindings) (name : ℕ) (type : TypeExpr) (types : List TypeExpr) (searched : ℕ) : Type 0 where
  pub asked : Has type types
  pub inside : (values : ℕ → TypeExpr) → IsMostGeneral values bindings → (inner : TypeExpr) → Has inner types → occurs name (replaced values inner) ≡ true
      → occurs name (replaced values type) ≡ true
  pub outside : (values : ℕ → TypeExpr) → IsMostGeneral values bindings → (bound : ℕ)
      → ((inner : TypeExpr) → Has inner types → size (replaced values inner) < bound → occurs name (replaced values inner) ≡ false)
      → (inner : TypeExpr) → Has inner (take searched types) → size (replaced values inner) < suc bound → occurs name (replaced values inner) ≡ false
