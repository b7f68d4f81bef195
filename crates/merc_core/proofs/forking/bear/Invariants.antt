-- Those that are still to come before those that are there are the whole; and no node is lost.
use Rattle.std.proofs.Common.{◌≡◌, ◌+◌, ◌≤◌, [], length}
use Rattle.merc_core.specs.Forking.{born_from, rights_wanted}
use Rattle.merc_core.proofs.forking.bear.Given as goal

abbrev pub invariant-loop-left : goal.invariant-loop-left
invariant-loop-left l = record {
  born : born_from l.course.past.items l.join l.fork.cells l.fork.moves l.child l.at l.left l.born ≡ born_from l.course.past.items l.join l.fork.cells l.fork.moves 1 l.place l.fork.children [];
  branches : length l.spare.branches + l.fork.children ≡ length l.fn.spare.branches + l.left;
  rights : rights_wanted l.fork.cells l.fork.moves 1 l.fork.children + length l.spare.rights ≡ length l.fn.spare.rights + rights_wanted l.fork.cells l.fork.moves l.child l.left;
  fewer : length l.spare.rights ≤ length l.fn.spare.rights;
  room : length l.born + length l.spare.branches ≡ length l.fn.spare.branches;
  child : l.child + l.left ≡ 1 + l.fork.children;
  outcomes : l.spare.outcomes ≡ l.fn.spare.outcomes;
}

abbrev pub decreases-loop-left : goal.decreases-loop-left
decreases-loop-left l = l.left
