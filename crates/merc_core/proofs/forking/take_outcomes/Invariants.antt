-- What is still to come before what is there is the whole; and no node is lost.
use Rattle.std.proofs.Common.{◌≡◌, ◌+◌, [], length}
use Rattle.merc_core.specs.Forking.{not_stored}
use Rattle.merc_core.proofs.forking.take_outcomes.Given as goal

abbrev pub invariant-loop-left : goal.invariant-loop-left
invariant-loop-left l = record {
  same : not_stored l.left l.outcomes ≡ not_stored l.children [];
  nodes : length l.spare + l.children ≡ length l.fn.spare + l.left;
  room : length l.outcomes + l.left ≡ l.children;
}

abbrev pub decreases-loop-left : goal.decreases-loop-left
decreases-loop-left l = l.left
