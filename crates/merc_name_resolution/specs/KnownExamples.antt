-- A module `m` that imports `list` and `require`, with a predicate p/1 of its own, predicates q/1 and p/1 of `list`, a type of its own with the
-- constructor c/0, and a type of `list` with the constructors d/1 and c/0.
use Rattle.std.specs.Prelude.{◌≡◌, ℕ, true, false, [], ◌∷◌, map, Option, Some, None, refl}
use Rattle.merc_base.specs.Names.{error_name, list_name, require_name}
use Rattle.merc_tree.specs.Term.{no_span}
use Rattle.merc_tree.specs.Types.{IntType}
use Rattle.merc_tree.specs.declared.declarations.Constructor.{Constructor}
use Rattle.merc_tree.specs.declared.declarations.TypeDef.{TypeDef}
use Rattle.merc_tree.specs.declared.declarations.PredDecl.{PredDecl}
use Rattle.merc_tree.specs.declared.declarations.Module.{Module}
use Rattle.merc_name_resolution.specs.declared.callee.Callee.TheVariants.{Predicate, Error}
use Rattle.merc_name_resolution.specs.Known.{allows, is_error, is_predicate, callee_in, is_callee, has_name, is_constructor, constructor_in}

abbrev pub m : ℕ
m = 100

abbrev pub p : ℕ
p = 101

abbrev pub q : ℕ
q = 102

abbrev own_type : ℕ
own_type = 103

abbrev pub c : ℕ
c = 104

abbrev list_type : ℕ
list_type = 105

abbrev pub d : ℕ
d = 106

abbrev pub predicate : ℕ → Option ℕ → PredDecl
predicate name unit = record { name = name; args = IntType ∷ []; modes = []; span = no_span; unit = unit }

abbrev pub plain_constructor : Constructor
plain_constructor = record { name = c; args = [] }

abbrev pub own : TypeDef
own = record { name = own_type; params = []; constructors = plain_constructor ∷ []; unit = None }

abbrev pub of_list : TypeDef
of_list = record { name = list_type; params = []; constructors = record { name = d; args = IntType ∷ [] } ∷ plain_constructor ∷ []; unit = Some list_name }

abbrev without_require : Module
without_require = record {
  name = m;
  units = list_name ∷ [];
  types = own ∷ of_list ∷ [];
  preds = predicate p None ∷ predicate q (Some list_name) ∷ predicate p (Some list_name) ∷ [];
  own = 1;
  clauses = [];
}

abbrev pub example : Module
example = record {
  name = m;
  units = list_name ∷ require_name ∷ [];
  types = own ∷ of_list ∷ [];
  preds = predicate p None ∷ predicate q (Some list_name) ∷ predicate p (Some list_name) ∷ [];
  own = 1;
  clauses = [];
}

-- without a qualifier, with the module's own name, and with that of `list`: an item of the module's own, and one of `list`
allows-own : map (λ (qualifier : Option ℕ). allows m qualifier None) (None ∷ Some m ∷ Some list_name ∷ []) ≡ true ∷ true ∷ false ∷ []
allows-own = refl

allows-unit : map (λ (qualifier : Option ℕ). allows m qualifier (Some list_name)) (None ∷ Some m ∷ Some list_name ∷ []) ≡ true ∷ false ∷ true ∷ []
allows-unit = refl

plain : callee_in example q None 1 ≡ Predicate 1
plain = refl

qualified : callee_in example q (Some list_name) 1 ≡ Predicate 1
qualified = refl

-- of several predicates the first is meant
first : callee_in example p None 1 ≡ Predicate 0
first = refl

own_qualified : callee_in example p (Some m) 1 ≡ Predicate 0
own_qualified = refl

-- a qualifier tells the unit
of_unit : callee_in example p (Some list_name) 1 ≡ Predicate 2
of_unit = refl

-- `m.q` is not there
of_another : callee_in example q (Some m) 1 ≡ Predicate 3
of_another = refl

is_there : is_callee example (callee_in example p (Some list_name) 1) ≡ true
is_there = refl

not_there : is_callee example (callee_in example q (Some m) 1) ≡ false
not_there = refl

-- nor is `require.p`
other_unit : is_callee example (callee_in example p (Some require_name) 1) ≡ false
other_unit = refl

-- a name is known with its number of arguments alone
other_arity : is_callee example (callee_in example p None 2) ≡ false
other_arity = refl

error : callee_in example error_name None 1 ≡ Error
error = refl

error_qualified : callee_in example error_name (Some require_name) 1 ≡ Error
error_qualified = refl

error_there : is_callee example Error ≡ true
error_there = refl

-- a unit's item is of that unit alone
error_of_module : callee_in example error_name (Some m) 1 ≡ Error → ⊥
error_of_module wrong = cc

error_not_imported : callee_in without_require error_name None 1 ≡ Predicate 3
error_not_imported = refl

error_arity : callee_in example error_name None 2 ≡ Predicate 3
error_arity = refl

error_of_none : callee_in example error_name None 0 ≡ Predicate 3
error_of_none = refl

-- `error/1` is what it is by its name, its number of arguments, and `require`
is_error-each : is_error example error_name None 1 ∷ is_error example p None 1 ∷ is_error example error_name None 2 ∷ is_error without_require error_name None 1 ∷ []
    ≡ true ∷ false ∷ false ∷ false ∷ []
is_error-each = refl

-- so is a predicate, by its name, its number of arguments and its unit
is_predicate-each : is_predicate m p None 1 (predicate p None) ∷ is_predicate m q None 1 (predicate p None) ∷ is_predicate m p None 2 (predicate p None)
    ∷ is_predicate m p (Some list_name) 1 (predicate p None) ∷ []
    ≡ true ∷ false ∷ false ∷ false ∷ []
is_predicate-each = refl

has_name-each : has_name c 0 plain_constructor ∷ has_name d 0 plain_constructor ∷ has_name c 1 plain_constructor ∷ [] ≡ true ∷ false ∷ false ∷ []
has_name-each = refl

constructor : is_constructor example c (Some m) 0 ≡ true
constructor = refl

constructor_of_unit : is_constructor example d (Some list_name) 1 ≡ true
constructor_of_unit = refl

-- a unit's constructor is of that unit alone
constructor_of_another : is_constructor example d (Some m) 1 ≡ false
constructor_of_another = refl

constructor_arity : is_constructor example c None 1 ≡ true → ⊥
constructor_arity wrong = cc

-- an own constructor has no arguments either, but another name
constructor_name : is_constructor example p None 0 ≡ false
constructor_name = refl

-- of several constructors the first is meant
constructor_first : constructor_in example.types c 0 ≡ Some (own, plain_constructor)
constructor_first = refl

constructor_later : constructor_in example.types d 1 ≡ Some (of_list, record { name = d; args = IntType ∷ [] })
constructor_later = refl

constructor_none : constructor_in example.types d 0 ≡ None
constructor_none = refl

constructor_unnamed : constructor_in example.types p 0 ≡ None
constructor_unnamed = refl
