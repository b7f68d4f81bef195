-- What is put so far, with what moves of the rest, is what is put of the whole; and no node is lost.
use Rattle.std.proofs.Common.{◌≡◌, ◌++◌, ◌+◌, true, length}
use Rattle.merc_core.specs.Rights.{moved_to}
use Rattle.merc_core.proofs.forking.put_moved.Given as goal

abbrev pub invariant-loop-rest : goal.invariant-loop-rest
invariant-loop-rest l = record {
  same : l.rights ++ moved_to l.child true l.rest ≡ l.fn.rights ++ moved_to l.child true l.moves;
  nodes : length l.rights + length l.spare ≡ length l.fn.rights + length l.fn.spare;
}

abbrev pub decreases-loop-rest : goal.decreases-loop-rest
decreases-loop-rest l = length l.rest
