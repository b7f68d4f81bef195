use Rattle.std.proofs.Common.{◌≡◌, ◌++◌, map, drop}
use Rattle.merc_entries.specs.Entries.{declared_by, constructors_of}
use Rattle.merc_entries.specs.EntryValue.{entry_values}
use Rattle.merc_entries.specs.FirstPlaces.{declared_value}
use Rattle.merc_entries.proofs.doubles.declarations.constructors.Given as goal

abbrev pub invariant-loop-entry : goal.invariant-loop-entry
invariant-loop-entry l =
    map (declared_value (λ key. key)) l.constructors.items ++ declared_by constructors_of (entry_values (drop l.entry-index l.entries)) ≡ declared_by constructors_of (entry_values l.entries)
