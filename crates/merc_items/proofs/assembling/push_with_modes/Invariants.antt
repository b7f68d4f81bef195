use Rattle.std.proofs.Common.{◌≡◌, ◌++◌, drop}
use Rattle.std.specs.List.{flat_map}
use Rattle.merc_entries.specs.EntryValue.{entry_values}
use Rattle.merc_items.specs.Assembling.{preds_by}
use Rattle.merc_items.specs.Parting.{kept}
use Rattle.merc_items.proofs.assembling.push_with_modes.Given as goal

abbrev pub invariant-loop-entry : goal.invariant-loop-entry
invariant-loop-entry l =
    l.preds ++ flat_map (kept l.part (preds_by l.names l.table)) (entry_values (drop l.entry-index l.entries))
    ≡ l.initial.preds ++ flat_map (kept l.part (preds_by l.names l.table)) (entry_values l.entries)
