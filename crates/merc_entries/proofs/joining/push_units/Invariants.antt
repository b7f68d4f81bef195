use Rattle.std.proofs.Common.{◌≡◌, ◌++◌, drop}
use Rattle.merc_entries.specs.Entries.{unit_entries, with_units}
use Rattle.merc_entries.specs.EntryValue.{entry_values}
use Rattle.merc_entries.specs.Units.{items_of}
use Rattle.merc_entries.proofs.joining.push_units.Given as goal

abbrev pub invariant-loop-unit : goal.invariant-loop-unit
invariant-loop-unit l = record {
  entries : entry_values l.entries.items ++ unit_entries (items_of l.units) l.place l.seen (drop l.unit-index l.imported)
      ≡ entry_values l.fn.entries.items ++ unit_entries (items_of l.units) l.place l.fn.seen l.imported;
  seen : with_units l.seen (drop l.unit-index l.imported) ≡ with_units l.fn.seen l.imported;
}
