-- The text goes on with the slots of the variables before this one.
use Rattle.std.proofs.Common.{◌≡◌, ◌++◌, map, drop}
use Rattle.merc_listing.specs.Listing.{spaced}
use Rattle.merc_listing.specs.Parts.{slot}
use Rattle.merc_listing.proofs.parts.push_slots.Given as goal

abbrev pub invariant-loop-variable : goal.invariant-loop-variable
invariant-loop-variable l = l.line ++ spaced (map slot (drop l.variable-index l.variables)) ≡ l.fn.line ++ spaced (map slot l.variables)
