use Rattle.std.proofs.Common.{◌≡◌, ◌++◌, drop}
use Rattle.merc_entries.specs.Entries.{entries_from}
use Rattle.merc_entries.specs.EntryValue.{entry_values}
use Rattle.merc_entries.specs.Units.{items_of}
use Rattle.merc_entries.proofs.joining.push_items.Given as goal

abbrev pub invariant-loop-index : goal.invariant-loop-index
invariant-loop-index l = entry_values l.entries.items ++ entries_from (items_of l.units) l.seen (drop l.index l.terms) ≡ entry_values l.fn.entries.items ++ entries_from (items_of l.units) l.fn.seen l.terms
