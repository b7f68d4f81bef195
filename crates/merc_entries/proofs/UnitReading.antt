-- The items of the units, read one text behind the other.
use Rattle.std.proofs.Common.{◌≡◌, ◌≢◌, ℕ, true, List, [], is_some, refl, codes, ne_eqb}
use Rattle.merc_base.specs.Names.{list_name, bool_name, maybe_name, fixed_names}
use Rattle.merc_entries.specs.Library.{units, unit_text}
use Rattle.merc_tree.specs.Term.{Term}
use Rattle.merc_entries.specs.declared.units.Units.{Units}
use Rattle.merc_entries.specs.Units.{constant_text, items_of, AreUnits, IsUnit}

-- the three units have a text

pub list_there : is_some (unit_text (constant_text list_name)) ≡ true
unfolding units fixed_names
list_there = refl

pub bool_there : is_some (unit_text (constant_text bool_name)) ≡ true
unfolding units fixed_names
bool_there = refl

pub maybe_there : is_some (unit_text (constant_text maybe_name)) ≡ true
unfolding units fixed_names
maybe_there = refl

-- other names than those of the three units with a text
no_unit : (units : Units) (name : ℕ) → name ≢ list_name → name ≢ bool_name → name ≢ maybe_name → items_of units name ≡ []
no_unit units name no_list no_bool no_maybe = rw (ne_eqb name list_name no_list, ne_eqb name bool_name no_bool, ne_eqb name maybe_name no_maybe) refl

pub all_units : (before one two after : List (List ℕ)) (list bool maybe : List Term)
    → IsUnit before one (codes "list") list → IsUnit one two (codes "bool") bool → IsUnit two after (codes "maybe") maybe
    → AreUnits before after (items_of (record { list = list; bool = bool; maybe = maybe }))
all_units before one two after list bool maybe has_list has_bool has_maybe = record {
  after_list = one;
  after_bool = two;
  list = has_list;
  bool = has_bool;
  maybe = has_maybe;
  others = no_unit (record { list = list; bool = bool; maybe = maybe });
}
