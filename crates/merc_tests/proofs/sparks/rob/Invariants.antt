use Rattle.crossbeam_deque.specs.Handles.{IsPassOf, stealer_deque}
use Rattle.merc_tests.proofs.sparks.rob.Given as goal

abbrev pub invariant-loop-i : goal.invariant-loop-i
invariant-loop-i g l = IsPassOf (stealer_deque l.thief.stealer) l.pass
