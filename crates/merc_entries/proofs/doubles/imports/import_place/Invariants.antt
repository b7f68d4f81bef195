use Rattle.std.proofs.Common.{◌≡◌, drop}
use Rattle.merc_entries.specs.DoubleFaults.{import_place}
use Rattle.merc_entries.specs.EntryValue.{entry_values}
use Rattle.merc_entries.proofs.doubles.imports.import_place.Given as goal

abbrev pub invariant-loop-entry : goal.invariant-loop-entry
invariant-loop-entry l = import_place l.unit (entry_values (drop l.entry-index l.entries)) ≡ import_place l.unit (entry_values l.entries)
