-- The text goes on with the lines of the instructions before this place.
use Rattle.std.proofs.Common.{◌≡◌, ◌++◌, drop}
use Rattle.merc_listing.specs.Listing.{code_lines}
use Rattle.merc_listing.proofs.listing.push_code.Given as goal

abbrev pub invariant-loop-place : goal.invariant-loop-place
invariant-loop-place l =
    l.text ++ code_lines l.known.names.now l.known.predicates.now l.marks l.place (drop l.place l.code)
    ≡ l.fn.text ++ code_lines l.known.names.now l.known.predicates.now l.marks 0 l.code
