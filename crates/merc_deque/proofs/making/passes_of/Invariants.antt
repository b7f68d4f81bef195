use Rattle.std.proofs.Common.{◌≡◌, length}
use Rattle.merc_deque.specs.Passes.{AreNew}
use Rattle.merc_deque.proofs.making.passes_of.Given as goal

abbrev pub invariant-loop-i : goal.invariant-loop-i
invariant-loop-i g l = (length l.passes.items ≡ l.i) × AreNew l.thief.stealer l.passes.items
