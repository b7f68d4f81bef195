-- What a type is at its root, and types put together.
use Rattle.std.specs.Prelude.{ℕ, ◌-◌, ◌==◌, List, [], ◌∷◌, ◌++◌, length, take, drop, if◌then◌else◌}
use Rattle.merc_base.specs.Names.{int_name, string_name}
use Rattle.merc_tree.specs.declared.types.TypeShape.{TypeShape}
use Rattle.merc_tree.specs.declared.types.TypeShape.TheVariants.{Variable as VariableShape, Int as IntShape, Text as TextShape, Application as ApplicationShape}
use Rattle.merc_tree.specs.Types.{TypeExpr, TypeVariable, IntType, TextType, TypeApplication, no_types, types_of, type_list}

abbrev pub type_shape_of : TypeExpr → TypeShape
type_shape_of (TypeVariable name) = VariableShape name
type_shape_of IntType = IntShape
type_shape_of TextType = TextShape
type_shape_of (TypeApplication name arguments) = ApplicationShape name (length (type_list arguments))

-- the arguments of a type, none for a variable, `int` or `string`
abbrev pub type_arguments_of : TypeExpr → List TypeExpr
type_arguments_of (TypeVariable name) = []
type_arguments_of IntType = []
type_arguments_of TextType = []
type_arguments_of (TypeApplication name arguments) = type_list arguments

-- the type that a name with these arguments spells
abbrev pub type_named : ℕ → List TypeExpr → TypeExpr
type_named name [] = if name == int_name then IntType else if name == string_name then TextType else TypeApplication name no_types
type_named name (first ∷ rest) = TypeApplication name (types_of (first ∷ rest))

-- The last types of a list, so many, become the arguments of one type.
abbrev pub types_applied : ℕ → ℕ → List TypeExpr → List TypeExpr
types_applied name arity types =
    let before = length types - arity in
    take before types ++ type_named name (drop before types) ∷ []
