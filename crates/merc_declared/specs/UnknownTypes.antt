-- Unknown types in the declarations of a file.
use Rattle.std.specs.Prelude.{◌≡◌, ℕ, Bool, true, false, ◌==◌, ◌&&◌, ◌||◌, not, List, ◌∷◌, ◌++◌, length, Option, Some, None}
use Rattle.std.specs.List.{list_any}
use Rattle.merc_base.specs.FirstPlace.{StandsAt}
use Rattle.merc_base.specs.Names.{int_name, string_name}
use Rattle.merc_base.specs.declared.place.Place.{Place}
use Rattle.merc_tree.specs.Term.{Term, Variable, Application}
use Rattle.merc_tree.specs.Shape.{arguments_of}
use Rattle.merc_item_forms.specs.Items.{Item, TypeItem, PredicateItem}
use Rattle.merc_value.specs.Text.{is_blank}
use Rattle.merc_item_forms.specs.Forms.{is_this_variable, has_part, argument_type}
use Rattle.merc_base.specs.declared.groups.Key.{Key}
use Rattle.merc_entries.specs.EntryValue.{place_at}
use Rattle.merc_entries.specs.Entries.{Entry, key, is_key, types_of, is_own}

abbrev pub is_unit_name : ℕ → Option ℕ → Bool
is_unit_name unit None = false
is_unit_name unit (Some other) = other == unit

abbrev pub is_of_unit : ℕ → Entry → Bool
is_of_unit unit entry = is_unit_name unit entry.unit

-- the types that some entries declare
abbrev pub declares_type : (Entry → Bool) → List Entry → Key → Bool
declares_type test entries found = list_any (λ entry. test entry && list_any (is_key found) (types_of entry.item)) entries

-- A type's name without a qualifier is `int`, `string` or of any entry, with the module's name one of the file's, and with a unit's name one of that unit.
abbrev pub is_known_type : ℕ → List Entry → Option ℕ → Key → Bool
is_known_type own entries None found = is_key found (key int_name 0) || is_key found (key string_name 0) || declares_type (λ entry. true) entries found
is_known_type own entries (Some qualifier) found =
    (qualifier == own && declares_type is_own entries found) || declares_type (is_of_unit qualifier) entries found

-- whether a part of a type is an unknown type
abbrev pub is_unknown : ℕ → List Entry → Term → Bool
is_unknown own entries (Application name qualifier arguments span) =
    not (is_known_type own entries qualifier (key name (length (arguments_of (Application name qualifier arguments span)))))
is_unknown own entries other = false

-- whether a part of a type is a variable that is no parameter
abbrev pub is_unbound : List (List ℕ) → List Term → Term → Bool
is_unbound names parameters (Variable name span) = is_blank names name || not (list_any (is_this_variable name) parameters)
is_unbound names parameters other = false

abbrev pub has_unknown : List (List ℕ) → ℕ → List Entry → Item → Bool
has_unknown names own entries (TypeItem head constructors) =
    list_any (λ constructor. list_any (has_part (λ part. is_unknown own entries part || is_unbound names (arguments_of head) part)) (arguments_of constructor)) constructors
has_unknown names own entries (PredicateItem head category) = list_any (λ argument. has_part (is_unknown own entries) (argument_type argument)) (arguments_of head)
has_unknown names own entries other = false

-- a declaration of the file with an unknown type, at its place
abbrev pub HasUnknownType : List (List ℕ) → ℕ → List Entry → Place → Type 0
HasUnknownType names own entries place = StandsAt place_at (λ entry. is_own entry && has_unknown names own entries entry.item) entries place
