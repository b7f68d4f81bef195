-- The text goes on with the lines of the predicates before these.
use Rattle.std.proofs.Common.{◌≡◌, ◌++◌, length}
use Rattle.merc_listing.specs.Listing.{predicates_lines}
use Rattle.merc_listing.proofs.listing.push_predicates.Given as goal

abbrev pub invariant-loop-declared : goal.invariant-loop-declared
invariant-loop-declared l =
    l.text ++ predicates_lines l.known.names.now l.known.predicates.now l.declared l.compiled l.clauses
    ≡ l.fn.text ++ predicates_lines l.known.names.now l.known.predicates.now l.known.predicates.now l.procedures l.fn.clauses

abbrev pub decreases-loop-declared : goal.decreases-loop-declared
decreases-loop-declared l = length l.declared
