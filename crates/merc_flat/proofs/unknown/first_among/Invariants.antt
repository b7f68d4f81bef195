use Rattle.std.proofs.Common.{◌≡◌, drop}
use Rattle.merc_goals.specs.Faults.{earlier, first_span}
use Rattle.merc_flat.specs.UnknownNames.{entries_unknown}
use Rattle.merc_flat.proofs.unknown.first_among.Given as goal

abbrev pub invariant-loop-entry : goal.invariant-loop-entry
invariant-loop-entry l = earlier l.first (first_span (entries_unknown l.known (drop l.entry-index l.entries))) ≡ first_span (entries_unknown l.known l.entries)
