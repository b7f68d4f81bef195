-- The text goes on with the places before this one.
use Rattle.std.proofs.Common.{◌≡◌, ◌++◌, drop}
use Rattle.merc_listing.specs.Parts.{more_places}
use Rattle.merc_listing.proofs.parts.push_more_places.Given as goal

abbrev pub invariant-loop-place : goal.invariant-loop-place
invariant-loop-place l = l.line ++ more_places (drop l.place-index l.places) ≡ l.fn.line ++ more_places l.places
