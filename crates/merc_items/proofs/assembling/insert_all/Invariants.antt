use Rattle.std.proofs.Common.{◌≡◌, drop}
use Rattle.merc_entries.specs.Entries.{with_units}
use Rattle.merc_items.proofs.assembling.insert_all.Given as goal

abbrev pub invariant-loop-name : goal.invariant-loop-name
invariant-loop-name l = with_units l.units (drop l.name-index l.names) ≡ with_units l.initial.units l.names
