-- Doubled declarations, at the later item, and the first of them.
use Rattle.std.specs.Prelude.{◌≡◌, ℕ, Bool, true, nat_le, List, [], ◌∷◌, ◌++◌, Option, Some, None, if◌then◌else◌}
use Rattle.std.specs.List.{list_any}
use Rattle.merc_base.specs.Names.{plus_name, minus_name, star_name, slash_slash_name, div_name, mod_name, rem_name, error_name, int_name, string_name, bool_name, maybe_name, require_name}
use Rattle.merc_base.specs.declared.place.Place.{Place}
use Rattle.merc_item_forms.specs.Forms.{is_in}
use Rattle.merc_base.specs.declared.groups.Key.{Key}
use Rattle.merc_entries.specs.Entries.{Entry, key, Declared, is_key, is_same_mode, imports, types_of, constructors_of, predicates_of, modes_of, declared_by, own_entries}

-- something is declared at this place that was declared before
pub record IsAgain {K : Type 0} (same : K → K → Bool) (declared : List (Declared K)) (place : Place) : Type 0 where
  pub front : List (Declared K)
  pub again : Declared K
  pub back : List (Declared K)
  pub whole : declared ≡ front ++ again ∷ back
  pub before : list_any (λ other. same again.key other.key) front ≡ true
  pub there : place ≡ again.place

abbrev pub at_start : Key → Declared Key
at_start key = record { key = key; place = record { byte = 0; line = 1 } }

-- `int` and `string` are declared from the start
abbrev pub type_keys : List Entry → List (Declared Key)
type_keys entries = at_start (key int_name 0) ∷ at_start (key string_name 0) ∷ declared_by types_of entries

-- the arithmetic constructors
abbrev pub is_arithmetic : Key → Bool
is_arithmetic found = list_any (is_key found) (key plus_name 2 ∷ key minus_name 2 ∷ key star_name 2 ∷ key slash_slash_name 2 ∷ key div_name 2 ∷ key mod_name 2 ∷ key rem_name 2 ∷ key minus_name 1 ∷ [])

-- where a unit is first imported
abbrev pub import_place : ℕ → List Entry → Option Place
import_place unit [] = None
import_place unit (entry ∷ rest) = if is_in unit (imports entry.item) then Some entry.place else import_place unit rest

abbrev pub later : Place → Place → Place
later a b = if nat_le a.byte b.byte then b else a

pub data HasDouble (entries : List Entry) : Place → Type 0 where
  type_again : (place : Place) → IsAgain is_key (type_keys entries) place → HasDouble entries place
  constructor_again : (place : Place) → IsAgain is_key (declared_by constructors_of entries) place → HasDouble entries place
  arithmetic : (front back : List Entry) (entry : Entry) → entries ≡ front ++ entry ∷ back → list_any is_arithmetic (constructors_of entry.item) ≡ true → HasDouble entries entry.place
  predicate_again : (place : Place) → IsAgain is_key (declared_by predicates_of entries) place → HasDouble entries place
  error_again : (front back : List Entry) (entry : Entry) (place : Place) → entries ≡ front ++ entry ∷ back → list_any (is_key (key error_name 1)) (predicates_of entry.item) ≡ true → import_place require_name entries ≡ Some place → HasDouble entries (later place entry.place)
  mode_again : (place : Place) → IsAgain is_same_mode (declared_by modes_of (own_entries entries)) place → HasDouble entries place
  bool_and_maybe : (bool maybe : Place) → import_place bool_name entries ≡ Some bool → import_place maybe_name entries ≡ Some maybe → HasDouble entries (later bool maybe)
