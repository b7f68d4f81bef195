use Rattle.std.proofs.Common.{◌≡◌, ◌+◌, length}
use Rattle.merc_core.proofs.making.add_branches.Given as goal

abbrev pub invariant-loop : goal.invariant-loop
invariant-loop l = length l.list ≡ length l.fn.list + l.counter
