use Rattle.std.proofs.Common.{◌≡◌, length, take}
use Rattle.merc_goal_facts.specs.Bounds.{Tells, AreApart}
use Rattle.merc_goal_facts.proofs.bound.unbind.Given as goal

abbrev pub invariant-loop-table : goal.invariant-loop-table
invariant-loop-table l = record {
  tells : Tells l.table l.trail.items;
  apart : AreApart l.trail.items;
  trail : take l.mark l.trail.items ≡ take l.mark l.fn.trail.items;
}

abbrev pub decreases-loop-table : goal.decreases-loop-table
decreases-loop-table l = length l.trail.items
