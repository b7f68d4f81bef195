use Rattle.std.proofs.Common.{◌≡◌, ◌++◌, drop}
use Rattle.std.specs.List.{flat_map}
use Rattle.merc_entries.specs.EntryValue.{entry_values}
use Rattle.merc_items.specs.ModuleOf.{clauses_in}
use Rattle.merc_items.specs.Parting.{kept}
use Rattle.merc_items.proofs.assembling.push_clauses.Given as goal

abbrev pub invariant-loop-entry : goal.invariant-loop-entry
invariant-loop-entry l =
    l.clauses ++ flat_map (kept l.part clauses_in) (entry_values (drop l.entry-index l.entries)) ≡ l.initial.clauses ++ flat_map (kept l.part clauses_in) (entry_values l.entries)
