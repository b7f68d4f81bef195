use Rattle.std.proofs.Common.{◌≤◌}
use Rattle.merc_pool.proofs.session.count_all.Given as goal

abbrev pub invariant-loop-slot : goal.invariant-loop-slot
invariant-loop-slot g l = l.fn.into ≤ l.into
