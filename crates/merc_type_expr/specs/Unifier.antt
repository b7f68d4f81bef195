-- Substitutions of types, and what unifies two types.
use Rattle.std.specs.Prelude.{◌≡◌, ℕ, ◌↔◌, ◌==◌, List, [], ◌∷◌, Option, Some, None, if◌then◌else◌}
use Rattle.std.specs.List.{AllByRecursion}
use Rattle.merc_tree.specs.Types.{TypeExpr, TypeVariable, replaced}

-- a substitution: type variables with the types that they stand for, in which other variables may stand for types in their turn
abbrev pub Bindings : Type 0
Bindings = List (ℕ × TypeExpr)

-- the type that a variable is bound to
abbrev pub bound_to : Bindings → ℕ → Option TypeExpr
bound_to [] name = None
bound_to (binding ∷ rest) name = if binding.0 == name then Some binding.1 else bound_to rest name

-- Types for all variables solve a substitution where each bound variable has the type that it is bound to.
abbrev pub Solves : (ℕ → TypeExpr) → Bindings → Type 0
Solves values bindings = AllByRecursion (λ binding. values binding.0 ≡ replaced values binding.1) bindings

-- They unify two types under a substitution where they solve it and make the two types one.
pub record Unifies (values : ℕ → TypeExpr) (a b : TypeExpr) (under : Bindings) : Type 0 where
  pub solves : Solves values under
  pub same : replaced values a ≡ replaced values b

-- The most general types for all variables that solve a substitution: variables that are not bound stand for themselves, and
-- each other solution replaces variables in them.
pub record IsMostGeneral (values : ℕ → TypeExpr) (bindings : Bindings) : Type 0 where
  pub solves : Solves values bindings
  pub free : (name : ℕ) → bound_to bindings name ≡ None → values name ≡ TypeVariable name
  pub general : (other : ℕ → TypeExpr) → Solves other bindings → (name : ℕ) → replaced other (values name) ≡ other name

-- a substitution has a solution, and so a most general one
abbrev pub IsSolvable : Bindings → Type 0
IsSolvable bindings = (values : ℕ → TypeExpr) × IsMostGeneral values bindings

-- A substitution is the most general unifier of two types under another: it has a solution, and its solutions are all that unify them.
pub record IsUnifier (found : Bindings) (a b : TypeExpr) (under : Bindings) : Type 0 where
  pub solvable : IsSolvable found
  pub solutions : (values : ℕ → TypeExpr) → Solves values found ↔ Unifies values a b under

-- nothing unifies two types under a substitution
abbrev pub HasNoUnifier : TypeExpr → TypeExpr → Bindings → Type 0
HasNoUnifier a b under = (values : ℕ → TypeExpr) → Unifies values a b under → ⊥
