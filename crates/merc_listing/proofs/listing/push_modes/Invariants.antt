-- The text goes on with the lines of the modes before these.
use Rattle.std.proofs.Common.{◌≡◌, ◌++◌, length}
use Rattle.merc_listing.specs.Listing.{modes_lines}
use Rattle.merc_listing.proofs.listing.push_modes.Given as goal

abbrev pub invariant-loop-modes : goal.invariant-loop-modes
invariant-loop-modes l =
    l.text ++ modes_lines l.known.names.now l.known.predicates.now l.declared l.clauses l.modes l.compiled
    ≡ l.fn.text ++ modes_lines l.known.names.now l.known.predicates.now l.declared l.clauses l.fn.modes l.procedures

abbrev pub decreases-loop-modes : goal.decreases-loop-modes
decreases-loop-modes l = length l.modes
