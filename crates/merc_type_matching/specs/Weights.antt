-- How much a type weighs.
use Rattle.std.specs.Prelude.{◌≡◌, ℕ, ◌+◌}
use Rattle.std.proofs.Common.{refl}
use Rattle.merc_tree.specs.Types.{TypeExpr, TypeExprs, TypeVariable, IntType, TextType, TypeApplication, no_types, more_types}

-- with one more argument it weighs more than this and the rest
abbrev mutual
  pub type_weight : TypeExpr → ℕ
  type_weight (TypeVariable name) = 1
  type_weight IntType = 1
  type_weight TextType = 1
  type_weight (TypeApplication name arguments) = 1 + types_weight arguments

  pub types_weight : TypeExprs → ℕ
  types_weight no_types = 0
  types_weight (more_types first rest) = type_weight first + 1 + types_weight rest

type_weight-variable : type_weight (TypeVariable 8) ≡ 1
type_weight-variable = refl

-- `7(int, string)`
type_weight-two : type_weight (TypeApplication 7 (more_types IntType (more_types TextType no_types))) ≡ 5
type_weight-two = refl
