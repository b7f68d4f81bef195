use Rattle.std.proofs.Common.{◌≡◌, ◌++◌, drop}
use Rattle.std.specs.List.{flat_map}
use Rattle.merc_entries.specs.EntryValue.{entry_values}
use Rattle.merc_items.specs.ModuleOf.{type_defs}
use Rattle.merc_items.specs.Parting.{kept}
use Rattle.merc_items.proofs.assembling.push_types.Given as goal

abbrev pub invariant-loop-entry : goal.invariant-loop-entry
invariant-loop-entry l =
    l.types ++ flat_map (kept l.part (type_defs l.names)) (entry_values (drop l.entry-index l.entries)) ≡ l.initial.types ++ flat_map (kept l.part (type_defs l.names)) (entry_values l.entries)
