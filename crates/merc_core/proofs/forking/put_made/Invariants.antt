-- What is put so far, with what is made of the rest, is what is put of the whole; and no node is lost.
use Rattle.std.proofs.Common.{◌≡◌, ◌++◌, ◌+◌, length}
use Rattle.merc_core.specs.Rights.{made_by}
use Rattle.merc_core.proofs.forking.put_made.Given as goal

abbrev pub invariant-loop-rest : goal.invariant-loop-rest
invariant-loop-rest l = record {
  same : l.rights ++ made_by l.child l.rest ≡ l.fn.rights ++ made_by l.child l.cells;
  nodes : length l.rights + length l.spare ≡ length l.fn.rights + length l.fn.spare;
}

abbrev pub decreases-loop-rest : goal.decreases-loop-rest
decreases-loop-rest l = length l.rest
