-- The parts of which the entries of a module are joined.
use Rattle.std.specs.Prelude.{ℕ, List, map, Some, None}
use Rattle.merc_base.specs.declared.place.Place.{Place}
use Rattle.merc_tree.specs.Term.{Term, span_of}
use Rattle.merc_item_forms.specs.Items.{item_of, place_of}
use Rattle.merc_entries.specs.Entries.{Entry}

-- an item of the file, at its own place
abbrev pub own_entry : Term → Entry
own_entry term = record { item = item_of term; span = span_of term; place = place_of term; unit = None }

-- an item of a unit, at the place of an import
abbrev pub unit_entry : Place → ℕ → Term → Entry
unit_entry place unit term = record { item = item_of term; span = span_of term; place = place; unit = Some unit }

abbrev pub entries_of_unit : (ℕ → List Term) → Place → ℕ → List Entry
entries_of_unit items place unit = map (unit_entry place unit) (items unit)
