use Rattle.std.proofs.Common.{◌≡◌, ◌++◌, map, drop}
use Rattle.merc_entries.specs.EntryValue.{entry_values}
use Rattle.merc_entries.specs.Joining.{unit_entry}
use Rattle.merc_entries.proofs.joining.push_unit.Given as goal

abbrev pub invariant-loop-index : goal.invariant-loop-index
invariant-loop-index l =
    entry_values l.entries.items ++ map (unit_entry l.place l.unit) (drop l.index l.terms) ≡ entry_values l.initial.entries.items ++ map (unit_entry l.place l.unit) l.terms
