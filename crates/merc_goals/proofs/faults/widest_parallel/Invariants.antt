use Rattle.std.proofs.Common.{◌≡◌, drop, max}
use Rattle.merc_goals.specs.Found.{widest_of}
use Rattle.merc_goals.proofs.faults.widest_parallel.Given as goal

abbrev pub invariant-loop-entry : goal.invariant-loop-entry
invariant-loop-entry l = max l.widest (widest_of (drop l.entry-index l.entries)) ≡ widest_of l.entries
