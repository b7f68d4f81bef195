-- Types, as declarations and the checker of types have them. Names are numbers in a table of names.
use Rattle.std.specs.Prelude.{ℕ, List, [], ◌∷◌}

-- a type is a type variable, `int`, `string`, or a type's name with arguments
mutual
  pub data TypeExpr : Type 0 where
    TypeVariable : (name : ℕ) → TypeExpr
    IntType : TypeExpr
    TextType : TypeExpr
    TypeApplication : (name : ℕ) (arguments : TypeExprs) → TypeExpr

  pub data TypeExprs : Type 0 where
    no_types : TypeExprs
    more_types : (first : TypeExpr) (rest : TypeExprs) → TypeExprs

-- a list of types as arguments, and back
abbrev pub types_of : List TypeExpr → TypeExprs
types_of [] = no_types
types_of (first ∷ rest) = more_types first (types_of rest)

abbrev pub type_list : TypeExprs → List TypeExpr
type_list no_types = []
type_list (more_types first rest) = first ∷ type_list rest

-- a type with each variable replaced
abbrev mutual
  pub replaced : (ℕ → TypeExpr) → TypeExpr → TypeExpr
  replaced values (TypeVariable name) = values name
  replaced values IntType = IntType
  replaced values TextType = TextType
  replaced values (TypeApplication name arguments) = TypeApplication name (replaced_all values arguments)

  pub replaced_all : (ℕ → TypeExpr) → TypeExprs → TypeExprs
  replaced_all values no_types = no_types
  replaced_all values (more_types first rest) = more_types (replaced values first) (replaced_all values rest)
