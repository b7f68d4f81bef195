-- The text goes on with the slots of the outputs before these places.
use Rattle.std.proofs.Common.{◌≡◌, ◌++◌, map, length}
use Rattle.merc_last_calls.specs.LastCalls.{outputs}
use Rattle.merc_listing.specs.Listing.{spaced}
use Rattle.merc_listing.specs.Parts.{slot}
use Rattle.merc_listing.proofs.instructions.push_outputs.Given as goal

abbrev pub invariant-loop-places : goal.invariant-loop-places
invariant-loop-places l = l.line ++ spaced (map slot (outputs l.places l.arguments)) ≡ l.fn.line ++ spaced (map slot (outputs l.fn.places l.fn.arguments))

abbrev pub decreases-loop-places : goal.decreases-loop-places
decreases-loop-places l = length l.places
