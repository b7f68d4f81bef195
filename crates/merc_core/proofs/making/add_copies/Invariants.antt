-- The list grows up to the length that is wanted.
use Rattle.std.proofs.Common.{◌≡◌, ◌+◌, ◌-◌, ◌≤◌, length}
use Rattle.merc_core.proofs.making.add_copies.Given as goal

abbrev pub invariant-loop-one : goal.invariant-loop-one
invariant-loop-one g l = record {
  wanted : l.wanted ≡ length l.fn.list + l.count;
  within : length l.list ≤ l.wanted;
}

abbrev pub decreases-loop-one : goal.decreases-loop-one
decreases-loop-one g l = l.wanted - length l.list
