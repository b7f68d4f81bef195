-- The pop of the rest is that of the whole.
use Rattle.std.proofs.Common.{◌≡◌, ◌+◌, length}
use Rattle.merc_core.specs.Replaying.{first_pop}
use Rattle.merc_core.proofs.readying.first_pop.Given as goal

abbrev pub invariant-loop-rest : goal.invariant-loop-rest
invariant-loop-rest l = record {
  count : l.number + length l.rest ≡ length l.workers;
  same : first_pop l.number l.rest ≡ first_pop 0 l.workers;
}

abbrev pub decreases-loop-rest : goal.decreases-loop-rest
decreases-loop-rest l = length l.rest
