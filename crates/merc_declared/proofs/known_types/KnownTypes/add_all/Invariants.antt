use Rattle.std.proofs.Common.{take}
use Rattle.merc_entries.specs.EntryValue.{entry_values}
use Rattle.merc_declared.specs.KnownTypes.{HoldsTypes}
use Rattle.merc_declared.proofs.known_types.KnownTypes.add_all.Given as goal

abbrev pub invariant-loop-entry : goal.invariant-loop-entry
invariant-loop-entry l = HoldsTypes l.fn.self.own_name (entry_values (take l.entry-index l.entries)) l.self
