use Rattle.std.proofs.Common.{◌≡◌}
use Rattle.merc_core.specs.Starting.{first_workers}
use Rattle.merc_core.proofs.making.make_workers.Given as goal

abbrev pub invariant-loop : goal.invariant-loop
invariant-loop l = l.workers.items ≡ first_workers l.counter
