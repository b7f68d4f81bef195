-- What the code's entries stand for, and lists of entries whose places are in order.
use Rattle.std.specs.Prelude.{List, map}
use Rattle.merc_base.specs.FirstPlace.{NeverFalls}
use Rattle.merc_base.specs.declared.place.Place.{Place}
use Rattle.merc_entries.specs.declared.entry.Entry.{Entry as CodeEntry}
use Rattle.merc_entries.specs.Entries.{Entry}
use Rattle.merc_item_forms.specs.ItemValue.{item_value}

abbrev pub entry_value : CodeEntry → Entry
entry_value entry = record { item = item_value entry.item; span = entry.span; place = entry.place; unit = entry.unit }

abbrev pub entry_values : List CodeEntry → List Entry
entry_values entries = map entry_value entries

-- where an entry stands
abbrev pub place_at : Entry → Place
place_at entry = entry.place

-- no entry stands at a lesser place than the one before it
abbrev pub AreInOrder : List Entry → Type 0
AreInOrder entries = NeverFalls place_at 0 entries
