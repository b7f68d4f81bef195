use Rattle.std.proofs.Common.{◌≡◌, drop}
use Rattle.merc_goals.specs.Faults.{earlier, first_span}
use Rattle.merc_goals.specs.Found.{outside_spans}
use Rattle.merc_goals.proofs.faults.first_outside.Given as goal

abbrev pub invariant-loop-entry : goal.invariant-loop-entry
invariant-loop-entry l = earlier l.first (first_span (outside_spans (drop l.entry-index l.entries))) ≡ first_span (outside_spans l.entries)
