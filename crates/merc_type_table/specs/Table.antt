-- Types by numbers, each over types that stand before it.
use Rattle.std.specs.Prelude.{◌≡◌, ℕ, ◌<◌, Bool, true, false, ◌&&◌, List, [], ◌∷◌, ◌++◌, map, length, slice_index_or, slice_get, Some}
use Rattle.std.proofs.Common.{refl}
use Rattle.merc_tree.specs.Types.{TypeExpr, TypeExprs, TypeVariable, IntType, TextType, TypeApplication, no_types, more_types}
use Rattle.merc_type_table.specs.declared.node.TypeNode.{TypeNode}
use Rattle.merc_type_table.specs.declared.node.TypeNode.TheVariants.{Variable, Int, Text, Name, With}

-- the type at a number
abbrev pub type_at : List TypeExpr → ℕ → TypeExpr
type_at types number = slice_index_or types number IntType

-- a type's name over arguments, with one more before them
abbrev pub with_first : TypeExpr → TypeExpr → TypeExpr
with_first first (TypeVariable name) = TypeVariable name
with_first first IntType = IntType
with_first first TextType = TextType
with_first first (TypeApplication name arguments) = TypeApplication name (more_types first arguments)

with_first-is : with_first IntType (TypeApplication 7 (more_types TextType no_types)) ≡ TypeApplication 7 (more_types IntType (more_types TextType no_types))
with_first-is = refl

-- what a node makes of the types that stand before it
abbrev pub made : List TypeExpr → TypeNode → TypeExpr
made types (Variable name) = TypeVariable name
made types Int = IntType
made types Text = TextType
made types (Name name) = TypeApplication name no_types
made types (With first rest) = with_first (type_at types first) (type_at types rest)

-- the types that nodes make one after the other, behind others
abbrev pub made_after : List TypeExpr → List TypeNode → List TypeExpr
made_after types [] = types
made_after types (node ∷ nodes) = made_after (types ++ made types node ∷ []) nodes

abbrev pub types_made : List TypeNode → List TypeExpr
types_made nodes = made_after [] nodes

-- `pair(int, A)`, whose name is 7
types_made-pair : types_made (Int ∷ Variable 8 ∷ Name 7 ∷ With 1 2 ∷ With 0 3 ∷ [])
    ≡ IntType ∷ TypeVariable 8 ∷ TypeApplication 7 no_types ∷ TypeApplication 7 (more_types (TypeVariable 8) no_types)
    ∷ TypeApplication 7 (more_types IntType (more_types (TypeVariable 8) no_types)) ∷ []
types_made-pair = refl

-- a type's name over arguments
abbrev pub is_application : TypeExpr → Bool
is_application (TypeVariable name) = false
is_application IntType = false
is_application TextType = false
is_application (TypeApplication name arguments) = true

-- what a node is over stands before this number
abbrev pub IsBefore : ℕ → TypeNode → Type 0
IsBefore number (Variable name) = Unit {0}
IsBefore number Int = Unit {0}
IsBefore number Text = Unit {0}
IsBefore number (Name name) = Unit {0}
IsBefore number (With first rest) = (first < number) × (rest < number)

-- one more argument is added to a type's name over arguments alone
abbrev pub IsComplete : List TypeExpr → TypeNode → Type 0
IsComplete types (Variable name) = Unit {0}
IsComplete types Int = Unit {0}
IsComplete types Text = Unit {0}
IsComplete types (Name name) = Unit {0}
IsComplete types (With first rest) = is_application (type_at types rest) ≡ true

-- no type stands at two numbers
abbrev pub AreDistinct : List TypeExpr → Type 0
AreDistinct types = (one other : ℕ) → one < length types → other < length types → type_at types one ≡ type_at types other → one ≡ other

-- whether a type has no type variables
abbrev mutual
  pub is_closed : TypeExpr → Bool
  is_closed (TypeVariable name) = false
  is_closed IntType = true
  is_closed TextType = true
  is_closed (TypeApplication name arguments) = are_closed arguments

  pub are_closed : TypeExprs → Bool
  are_closed no_types = true
  are_closed (more_types first rest) = is_closed first && are_closed rest

is_closed-yes : is_closed (TypeApplication 7 (more_types IntType (more_types TextType no_types))) ≡ true
is_closed-yes = refl

is_closed-not : is_closed (TypeApplication 7 (more_types IntType (more_types (TypeVariable 8) no_types))) ≡ false
is_closed-not = refl

-- nodes of which each is over nodes before it, and of which no two make one type, and whether the types have no type variables
pub record IsTable (nodes : List TypeNode) (closed : List Bool) : Type 0 where
  pub before : (number : ℕ) (node : TypeNode) → slice_get nodes number ≡ Some node → IsBefore number node
  pub complete : (number : ℕ) (node : TypeNode) → slice_get nodes number ≡ Some node → IsComplete (types_made nodes) node
  pub distinct : AreDistinct (types_made nodes)
  pub int : slice_get nodes 0 ≡ Some Int
  pub text : slice_get nodes 1 ≡ Some Text
  pub closed_are : closed ≡ map is_closed (types_made nodes)
