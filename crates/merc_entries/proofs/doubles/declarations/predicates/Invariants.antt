use Rattle.std.proofs.Common.{◌≡◌, ◌++◌, map, drop}
use Rattle.merc_entries.specs.Entries.{declared_by, predicates_of}
use Rattle.merc_entries.specs.EntryValue.{entry_values}
use Rattle.merc_entries.specs.FirstPlaces.{declared_value}
use Rattle.merc_entries.proofs.doubles.declarations.predicates.Given as goal

abbrev pub invariant-loop-entry : goal.invariant-loop-entry
invariant-loop-entry l =
    map (declared_value (λ key. key)) l.predicates.items ++ declared_by predicates_of (entry_values (drop l.entry-index l.entries)) ≡ declared_by predicates_of (entry_values l.entries)
