-- Values that are of a type or not, over the type `list(T) ---> nil ; cons(T, list(T))`.
use Rattle.std.specs.Prelude.{ℕ, List, [], ◌∷◌, None, refl}
use Rattle.merc_tree.specs.Types.{TypeExpr, TypeVariable, TextType, TypeApplication, no_types, more_types}
use Rattle.merc_tree.specs.declared.declarations.TypeDef.{TypeDef}
use Rattle.merc_value.specs.Value.{Value, Text, Con, none, more}
use Rattle.merc_program_laws.specs.ValueTypes.{HasType}

abbrev list : ℕ
list = 60

abbrev pub parameter : ℕ
parameter = 61

abbrev pub nil : ℕ
nil = 62

abbrev pub cons : ℕ
cons = 63

abbrev pub list_of : TypeExpr → TypeExpr
list_of type = TypeApplication list (more_types type no_types)

abbrev pub declared : List TypeDef
declared = record {
  name = list;
  params = parameter ∷ [];
  constructors = record { name = nil; args = [] } ∷ record { name = cons; args = TypeVariable parameter ∷ list_of (TypeVariable parameter) ∷ [] } ∷ [];
  unit = None;
} ∷ []

-- `["a"]`, as `cons("a", nil)`
abbrev pub one_text : Value
one_text = Con cons (more (Text 70) (more (Con nil none) none))

texts : HasType declared one_text (list_of TextType)
texts = (_, (λ name. TextType), refl, refl, (refl, ((_, (λ name. TextType), refl, refl, tt), tt)))

-- `nil` is of each type of lists
nil_of_any : (type : TypeExpr) → HasType declared (Con nil none) (list_of type)
nil_of_any type = (_, (λ name. type), refl, refl, tt)

-- a text is no list, and `cons` without arguments is of no type

no_list : HasType declared (Text 70) (list_of TextType) → ⊥
no_list h = cc

no_constructor : (type : TypeExpr) → HasType declared (Con cons none) type → ⊥
no_constructor type h = cc h.2
