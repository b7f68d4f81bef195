-- What was found so far, and what the others add to it.
use Rattle.std.proofs.Common.{◌≡◌, ◌≤◌, drop, max, length}
use Rattle.merc_listing.specs.Parts.{beyond_named}
use Rattle.merc_listing.proofs.parts.first_mark.Given as goal

abbrev pub invariant-loop-instruction : goal.invariant-loop-instruction
invariant-loop-instruction l = record {
  value : max l.first (beyond_named (drop l.instruction-index l.procedure.code)) ≡ max (length l.procedure.places) (beyond_named l.procedure.code);
  bound : l.first ≤ 18446744073709551616;
}
