-- The two parts of a module: the file's entries, and those of units.
use Rattle.std.specs.Prelude.{Bool, not, List, [], if◌then◌else◌}
use Rattle.merc_items.specs.declared.parting.Part.{Part}
use Rattle.merc_items.specs.declared.parting.Part.TheVariants.{File, Units}
use Rattle.merc_entries.specs.Entries.{Entry, is_own, own_entries}
use Rattle.merc_items.specs.ModuleOf.{unit_items}

abbrev pub has : Part → Entry → Bool
has File entry = is_own entry
has Units entry = not (is_own entry)

-- the entries of a part
abbrev pub part_of : Part → List Entry → List Entry
part_of File entries = own_entries entries
part_of Units entries = unit_items entries

-- what an entry declares, where it is of this part
abbrev pub kept : {A : Type 0} → Part → (Entry → List A) → Entry → List A
kept part declared entry = if has part entry then declared entry else []
