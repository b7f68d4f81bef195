use Rattle.std.proofs.Common.{◌≡◌, ◌++◌, List, drop}
use Rattle.std.specs.List.{flat_map}
use Rattle.merc_base.specs.declared.groups.Key.{Key}
use Rattle.merc_entries.specs.EntryValue.{entry_values}
use Rattle.merc_items.specs.ModuleOf.{modes_in}
use Rattle.merc_items.specs.DeclaredModes.{kept_modes}
use Rattle.merc_items.specs.Parting.{kept}
use Rattle.merc_items.proofs.declared_modes.ModeTable.add_all.Given as goal

abbrev pub invariant-loop-entry : goal.invariant-loop-entry
invariant-loop-entry l = (predicate : List Key)
    → kept_modes l.self predicate ++ flat_map (kept l.part (modes_in predicate)) (entry_values (drop l.entry-index l.entries))
    ≡ kept_modes l.fn.self predicate ++ flat_map (kept l.part (modes_in predicate)) (entry_values l.entries)
