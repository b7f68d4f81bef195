-- How equations of types are solved, by examples.
use Rattle.std.specs.Prelude.{◌≡◌, ℕ, true, [], ◌∷◌, refl}
use Rattle.merc_base.specs.Names.{list_name}
use Rattle.merc_tree.specs.Types.{TypeExpr, TypeVariable, IntType, TextType, TypeApplication, no_types, more_types}
use Rattle.merc_type_expr.specs.Solving.{occurs, walked, zipped, Differ}

-- the type variables A and B, behind the constants

abbrev a_name : ℕ
a_name = 110

abbrev b_name : ℕ
b_name = 111

abbrev list_of : TypeExpr → TypeExpr
list_of type = TypeApplication list_name (more_types type no_types)

-- A leads to B, and B to list(A), where the search ends
pub leads_on : walked ((a_name, TypeVariable b_name) ∷ (b_name, list_of (TypeVariable a_name)) ∷ []) (TypeVariable a_name) ≡ list_of (TypeVariable a_name)
leads_on = refl

-- A variable is followed in the order of the bindings.
pub leads_back : walked ((b_name, list_of (TypeVariable a_name)) ∷ (a_name, TypeVariable b_name) ∷ []) (TypeVariable a_name) ≡ list_of (TypeVariable a_name) → ⊥
leads_back same = cc

pub inside : occurs a_name (list_of (TypeVariable a_name)) ≡ true
inside = refl

pub not_inside : occurs b_name (list_of (TypeVariable a_name)) ≡ true → ⊥
not_inside same = cc

pub pairs_in_order : zipped (IntType ∷ TextType ∷ []) (TextType ∷ IntType ∷ []) ≡ (IntType, TextType) ∷ (TextType, IntType) ∷ []
pairs_in_order = refl

-- int and string differ in any case; A and B may agree
pub int_is_no_string : Differ [] IntType TextType
int_is_no_string values solves same = cc

pub variables_may_agree : Differ [] (TypeVariable a_name) (TypeVariable b_name) → ⊥
variables_may_agree differ = differ (λ name. IntType) tt refl
