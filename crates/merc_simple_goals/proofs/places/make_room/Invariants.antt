use Rattle.std.proofs.Common.{◌≡◌, ◌-◌, ◌+◌, ℕ, length}
use Rattle.merc_simple_goals.specs.Places.{table_at}
use Rattle.merc_simple_goals.proofs.places.make_room.Given as goal

abbrev pub invariant-loop-alloc : goal.invariant-loop-alloc
invariant-loop-alloc l = (variable : ℕ) → table_at l.table.items variable ≡ table_at l.fn.table.items variable

abbrev pub decreases-loop-alloc : goal.decreases-loop-alloc
decreases-loop-alloc l = l.number + 1 - length l.table.items
