use Rattle.std.proofs.Common.{take}
use Rattle.merc_entries.specs.EntryValue.{entry_values}
use Rattle.merc_declared.specs.ModeCounts.{HoldsModes}
use Rattle.merc_declared.proofs.mode_counts.ModeCounts.add_all.Given as goal

abbrev pub invariant-loop-entry : goal.invariant-loop-entry
invariant-loop-entry l = HoldsModes (entry_values (take l.entry-index l.entries)) l.self
