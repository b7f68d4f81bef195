use Rattle.std.proofs.Common.{◌≡◌, ◌-◌, ◌+◌, ℕ, None, length}
use Rattle.std.specs.List.{slice_index_or}
use Rattle.merc_goal_facts.proofs.occurrences.make_room.Given as goal

abbrev pub invariant-loop-reaches : goal.invariant-loop-reaches
invariant-loop-reaches l = (variable : ℕ) → slice_index_or l.reaches.items variable None ≡ slice_index_or l.fn.reaches.items variable None

abbrev pub decreases-loop-reaches : goal.decreases-loop-reaches
decreases-loop-reaches l = l.number + 1 - length l.reaches.items
