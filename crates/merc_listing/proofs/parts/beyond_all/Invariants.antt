-- What was found so far, and what the others add to it.
use Rattle.std.proofs.Common.{◌≡◌, ◌≤◌, drop, max}
use Rattle.merc_listing.specs.Parts.{beyond}
use Rattle.merc_listing.proofs.parts.beyond_all.Given as goal

abbrev pub invariant-loop-variable : goal.invariant-loop-variable
invariant-loop-variable l = record {
  value : max l.first (beyond (drop l.variable-index l.variables)) ≡ beyond l.variables;
  bound : l.first ≤ 18446744073709551616;
}
