use Rattle.std.proofs.Common.{◌≡◌, drop}
use Rattle.merc_entries.specs.EntryValue.{entry_values, place_at}
use Rattle.merc_base.specs.FirstPlace.{first_place}
use Rattle.merc_declared.specs.KnownTypes.{has_unknown_here}
use Rattle.merc_declared.proofs.known_types.first_unknown.Given as goal

abbrev pub invariant-loop-entry : goal.invariant-loop-entry
invariant-loop-entry l =
    first_place place_at (has_unknown_here l.names l.types.own_name (entry_values l.entries)) (entry_values (drop l.entry-index l.entries))
    ≡ first_place place_at (has_unknown_here l.names l.types.own_name (entry_values l.entries)) (entry_values l.entries)
