-- What is written so far and what is pending are the text together.
use Rattle.std.proofs.Common.{◌≡◌, ◌++◌, List, true}
use Rattle.merc_term_text.specs.Pieces.{Piece, pieces_text}
use Rattle.merc_term_text.specs.Written.{part_of}
use Rattle.merc_term_text.specs.Walking.{pending, weights}
use Rattle.merc_term_text.proofs.writing.write_whole.Given as goal

abbrev pub invariant-loop-work : goal.invariant-loop-work
invariant-loop-work l = record {
  done : List Piece;
  appended : l.into ≡ l.fn.into ++ pieces_text l.names done;
  whole : done ++ pending l.names l.stack.items ≡ (part_of l.names l.fn.term).pieces true;
}

abbrev pub decreases-loop-work : goal.decreases-loop-work
decreases-loop-work l = weights l.stack.items
