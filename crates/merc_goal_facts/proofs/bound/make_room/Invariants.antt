use Rattle.std.proofs.Common.{◌≡◌, ◌-◌, ◌+◌, ℕ, false, length}
use Rattle.std.specs.List.{slice_index_or}
use Rattle.merc_goal_facts.proofs.bound.make_room.Given as goal

abbrev pub invariant-loop-table : goal.invariant-loop-table
invariant-loop-table l = (variable : ℕ) → slice_index_or l.table.items variable false ≡ slice_index_or l.fn.table.items variable false

abbrev pub decreases-loop-table : goal.decreases-loop-table
decreases-loop-table l = l.number + 1 - length l.table.items
