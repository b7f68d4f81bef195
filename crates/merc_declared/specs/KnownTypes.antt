-- The types that entries declare, and the tests of the parts of types against them.
use Rattle.std.specs.Prelude.{◌≡◌, ℕ, Bool, true, false, not, ◌==◌, ◌||◌, ◌&&◌, List, [], ◌∷◌, Option, Some, None}
use Rattle.std.specs.List.{list_any}
use Rattle.std.specs.Ordering.{nat_cmp}
use Rattle.std.specs.BTreeSet.{BTreeSet, contains}
use Rattle.merc_base.specs.Names.{int_name, string_name}
use Rattle.merc_tree.specs.Term.{Term}
use Rattle.merc_tree.specs.declared.term.Shape.{Shape}
use Rattle.merc_tree.specs.declared.term.Shape.TheVariants.{Variable as VariableShape, Integer as IntegerShape, Text as TextShape, Application as ApplicationShape}
use Rattle.merc_declared.specs.declared.known_types.UnitKeys.{UnitKeys}
use Rattle.merc_declared.specs.declared.known_types.KnownTypes.{KnownTypes}
use Rattle.merc_declared.specs.declared.known_types.Variables.{Variables}
use Rattle.merc_declared.specs.declared.known_types.Variables.TheVariants.{Any, Only}
use Rattle.merc_value.specs.Text.{is_blank}
use Rattle.merc_item_forms.specs.Forms.{is_this_variable}
use Rattle.merc_base.specs.declared.groups.Key.{Key}
use Rattle.merc_entries.specs.Entries.{Entry, is_key, types_of, is_own, key}
use Rattle.merc_declared.specs.UnknownTypes.{is_of_unit, declares_type, has_unknown}
use Rattle.merc_entries.specs.KeySets.{has_key}

-- whether a set has this key of this unit
abbrev pub has_unit_key : UnitKeys → ℕ → List Key → Bool
has_unit_key set unit [] = false
has_unit_key set unit (found ∷ more) = list_any (λ other. (other.unit == unit) && is_key found other.key) set.keys.keys

-- the types are those that some entries of a module declare
pub record HoldsTypes (own : ℕ) (entries : List Entry) (types : KnownTypes) : Type 0 where
  pub own_name : types.own_name ≡ own
  pub any : (found : Key) → has_key types.any (found ∷ []) ≡ declares_type (λ entry. true) entries found
  pub file : (found : Key) → has_key types.file (found ∷ []) ≡ declares_type is_own entries found
  pub units : (unit : ℕ) (found : Key) → has_unit_key types.units unit (found ∷ []) ≡ declares_type (is_of_unit unit) entries found

-- the types with those of one more entry
pub record AddsTypes (old new : KnownTypes) (entry : Entry) : Type 0 where
  pub own_name : new.own_name ≡ old.own_name
  pub any : (found : Key) → has_key new.any (found ∷ []) ≡ (has_key old.any (found ∷ []) || list_any (is_key found) (types_of entry.item))
  pub file : (found : Key) → has_key new.file (found ∷ []) ≡ (has_key old.file (found ∷ []) || (is_own entry && list_any (is_key found) (types_of entry.item)))
  pub units : (unit : ℕ) (found : Key) → has_unit_key new.units unit (found ∷ []) ≡ (has_unit_key old.units unit (found ∷ []) || (is_of_unit unit entry && list_any (is_key found) (types_of entry.item)))

-- whether a type is known
abbrev pub is_known_by : KnownTypes → Option ℕ → Key → Bool
is_known_by types None found = is_key found (key int_name 0) || is_key found (key string_name 0) || has_key types.any (found ∷ [])
is_known_by types (Some qualifier) found = (qualifier == types.own_name && has_key types.file (found ∷ [])) || has_unit_key types.units qualifier (found ∷ [])

-- whether a variable may not stand in a type: one that is no parameter, or `_`
abbrev pub is_unbound_by : List (List ℕ) → Variables → ℕ → Bool
is_unbound_by names Any name = false
is_unbound_by names (Only parameters) name = is_blank names name || not (contains nat_cmp parameters name)

-- whether a part of a type is an unknown type or such a variable
abbrev pub is_wrong_shape : List (List ℕ) → KnownTypes → Variables → Shape → Bool
is_wrong_shape names types variables (VariableShape name) = is_unbound_by names variables name
is_wrong_shape names types variables (IntegerShape value) = false
is_wrong_shape names types variables (TextShape text) = false
is_wrong_shape names types variables (ApplicationShape name qualifier arity) = not (is_known_by types qualifier (key name arity))

-- a set of the variables among some parameters
abbrev pub HoldsVariables : List Term → BTreeSet ℕ → Type 0
HoldsVariables parameters set = (name : ℕ) → contains nat_cmp set name ≡ list_any (is_this_variable name) parameters

-- an entry of the file with an unknown type
abbrev pub has_unknown_here : List (List ℕ) → ℕ → List Entry → Entry → Bool
has_unknown_here names own entries entry = is_own entry && has_unknown names own entries entry.item
