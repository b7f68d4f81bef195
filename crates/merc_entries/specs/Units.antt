-- The items of the library units.
use Rattle.std.specs.Prelude.{◌≡◌, ◌≢◌, ℕ, ◌==◌, List, [], Some, codes, slice_get, if◌then◌else◌}
use Rattle.std.specs.Option.{unwrap_or}
use Rattle.merc_base.specs.Names.{list_name, bool_name, maybe_name, fixed_names}
use Rattle.merc_entries.specs.Library.{unit_text}
use Rattle.merc_tree.specs.Term.{Term}
use Rattle.merc_terms.specs.Texts.{ReadsItems}
use Rattle.merc_entries.specs.declared.units.Units.{Units}

-- the text of a constant, nothing for another name
abbrev pub constant_text : ℕ → List ℕ
constant_text name = unwrap_or (slice_get fixed_names name) []

-- the items of a unit; a name of no unit and a unit without a text have none
abbrev pub items_of : Units → ℕ → List Term
items_of units name = if name == list_name then units.list else if name == bool_name then units.bool else if name == maybe_name then units.maybe else []

-- the text of the unit of this name is read as these items
pub record IsUnit (before after : List (List ℕ)) (name : List ℕ) (items : List Term) : Type 0 where
  pub text : List ℕ
  pub text_is : unit_text name ≡ Some text
  pub reads : ReadsItems before after text items

-- The items of each unit: those of its text, and none where there is no unit or no text. The texts were read in this order, with names in the table
-- before them and behind them.
pub record AreUnits (before after : List (List ℕ)) (items : ℕ → List Term) : Type 0 where
  pub after_list : List (List ℕ)
  pub after_bool : List (List ℕ)
  pub list : IsUnit before after_list (codes "list") (items list_name)
  pub bool : IsUnit after_list after_bool (codes "bool") (items bool_name)
  pub maybe : IsUnit after_bool after (codes "maybe") (items maybe_name)
  pub others : (name : ℕ) → name ≢ list_name → name ≢ bool_name → name ≢ maybe_name → items name ≡ []
