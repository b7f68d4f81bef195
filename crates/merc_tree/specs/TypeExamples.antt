-- Worked examples of types, which the prover computes, and a false statement that it refutes.
use Rattle.std.specs.Prelude.{◌≡◌, suc, [], ◌∷◌, map, refl}
use Rattle.merc_base.specs.Names.{int_name, list_name, string_name}
use Rattle.merc_tree.specs.declared.types.TypeShape.TheVariants.{Variable as VariableShape, Int as IntShape, Text as TextShape, Application as ApplicationShape}
use Rattle.merc_tree.specs.Types.{TypeExpr, TypeVariable, IntType, TextType, TypeApplication, no_types, more_types, replaced}
use Rattle.merc_tree.specs.TypeShape.{type_arguments_of, type_named, type_shape_of, types_applied}

-- `int` and `string` alone are the types of integers and texts

pub type_named-int : type_named int_name [] ≡ IntType
type_named-int = refl

pub type_named-string : type_named string_name [] ≡ TextType
type_named-string = refl

-- with arguments they are names as any other

pub type_named-int_of : type_named int_name (TextType ∷ []) ≡ TypeApplication int_name (more_types TextType no_types)
type_named-int_of = refl

pub type_named-list : type_named list_name [] ≡ TypeApplication list_name no_types
type_named-list = refl

pub type_named-not : type_named string_name [] ≡ TypeApplication string_name no_types → ⊥
type_named-not as_any_name = cc

-- `list(int)`, the last of two types being its argument

abbrev list_of_int : TypeExpr
list_of_int = TypeApplication list_name (more_types IntType no_types)

pub types_applied-example : types_applied list_name 1 (TextType ∷ IntType ∷ []) ≡ TextType ∷ list_of_int ∷ []
types_applied-example = refl

-- the last two of three, in their order
pub types_applied-two : types_applied list_name 2 (TextType ∷ IntType ∷ TypeVariable 110 ∷ []) ≡ TextType ∷ TypeApplication list_name (more_types IntType (more_types (TypeVariable 110) no_types)) ∷ []
types_applied-two = refl

pub type_shape_of-example : map type_shape_of (TypeVariable 110 ∷ IntType ∷ TextType ∷ list_of_int ∷ []) ≡ VariableShape 110 ∷ IntShape ∷ TextShape ∷ ApplicationShape list_name 1 ∷ []
type_shape_of-example = refl

pub type_arguments_of-example : type_arguments_of list_of_int ≡ IntType ∷ []
type_arguments_of-example = refl

-- `list(T)` with `int` in place of its variable

pub replaced-example : replaced (λ name. IntType) (TypeApplication list_name (more_types (TypeVariable 110) no_types)) ≡ list_of_int
replaced-example = refl

-- each variable by its own value, and nothing else, at each depth
pub replaced-each : replaced (λ name. TypeVariable (suc name)) (TypeApplication list_name (more_types (TypeVariable 110) (more_types TextType (more_types (TypeApplication list_name (more_types (TypeVariable 112) no_types)) no_types))))
    ≡ TypeApplication list_name (more_types (TypeVariable 111) (more_types TextType (more_types (TypeApplication list_name (more_types (TypeVariable 113) no_types)) no_types)))
replaced-each = refl
