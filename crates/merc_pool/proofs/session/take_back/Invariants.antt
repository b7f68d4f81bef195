use Rattle.std.proofs.Common.{◌≡◌}
use Rattle.merc_pool.proofs.session.take_back.Given as goal

abbrev pub invariant-loop-index : goal.invariant-loop-index
invariant-loop-index g l = l.slots ≡ l.fn.slots
