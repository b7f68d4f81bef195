use Rattle.std.proofs.Common.{take}
use Rattle.merc_entries.specs.EntryValue.{entry_values}
use Rattle.merc_declared.specs.ClauseHeads.{HoldsKeys}
use Rattle.merc_declared.proofs.clause_heads.OwnKeys.add_all.Given as goal

abbrev pub invariant-loop-entry : goal.invariant-loop-entry
invariant-loop-entry l = HoldsKeys l.own (entry_values (take l.entry-index l.entries)) l.self
