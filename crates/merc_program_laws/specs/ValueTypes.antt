-- The values of a type.
use Rattle.std.specs.Prelude.{◌≡◌, ℕ, FitsSigned, List, [], ◌∷◌, map, Some}
use Rattle.std.specs.Int.{w64}
use Rattle.merc_tree.specs.Types.{TypeExpr, IntType, TextType, TypeApplication, types_of, replaced}
use Rattle.merc_tree.specs.declared.declarations.Constructor.{Constructor}
use Rattle.merc_tree.specs.declared.declarations.TypeDef.{TypeDef}
use Rattle.merc_name_resolution.specs.Known.{constructor_in}
use Rattle.merc_value.specs.Value.{Value, Int, Text, Con, Values, none, more}
use Rattle.merc_meaning.specs.Values.{count}

-- A value of a constructor is of an instance of the type that declares it, where the type's parameters stand for any types, and its arguments are of the
-- same instances of theirs. Given are the declared types.
module _ (declared : List TypeDef) where
  abbrev mutual
    pub HasType : Value → TypeExpr → Type 0
    HasType (Int number) type = (type ≡ IntType) × FitsSigned w64 number
    HasType (Text text) type = type ≡ TextType
    HasType (Con symbol arguments) type =
        (found : TypeDef × Constructor)
        × (instance : (ℕ → TypeExpr))
        × (constructor_in declared symbol (count arguments) ≡ Some found)
        × (type ≡ TypeApplication found.0.name (types_of (map instance found.0.params)))
        × HaveTypes arguments (map (replaced instance) found.1.args)

    pub HaveTypes : Values → List TypeExpr → Type 0
    HaveTypes none [] = Unit {0}
    HaveTypes none (type ∷ types) = ⊥
    HaveTypes (more value values) [] = ⊥
    HaveTypes (more value values) (type ∷ types) = HasType value type × HaveTypes values types
