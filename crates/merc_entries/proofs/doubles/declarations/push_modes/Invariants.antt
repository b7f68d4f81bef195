use Rattle.std.proofs.Common.{◌≡◌, ◌++◌, map, drop}
use Rattle.merc_entries.specs.Entries.{declared_by, modes_of, own_entries}
use Rattle.merc_entries.specs.EntryValue.{entry_values}
use Rattle.merc_entries.specs.ModeValue.{mode_value}
use Rattle.merc_entries.specs.FirstPlaces.{declared_value}
use Rattle.merc_entries.proofs.doubles.declarations.push_modes.Given as goal

abbrev pub invariant-loop-entry : goal.invariant-loop-entry
invariant-loop-entry l =
    map (declared_value mode_value) l.modes.items ++ declared_by modes_of (own_entries (entry_values (drop l.entry-index l.entries)))
    ≡ declared_by modes_of (own_entries (entry_values l.entries))
