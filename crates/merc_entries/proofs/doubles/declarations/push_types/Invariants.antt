use Rattle.std.proofs.Common.{◌≡◌, ◌++◌, map, drop}
use Rattle.merc_entries.specs.Entries.{declared_by, types_of}
use Rattle.merc_entries.specs.DoubleFaults.{type_keys}
use Rattle.merc_entries.specs.EntryValue.{entry_values}
use Rattle.merc_entries.specs.FirstPlaces.{declared_value}
use Rattle.merc_entries.proofs.doubles.declarations.push_types.Given as goal

abbrev pub invariant-loop-entry : goal.invariant-loop-entry
invariant-loop-entry l =
    map (declared_value (λ key. key)) l.types.items ++ declared_by types_of (entry_values (drop l.entry-index l.entries)) ≡ type_keys (entry_values l.entries)
