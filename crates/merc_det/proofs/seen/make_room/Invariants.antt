use Rattle.std.proofs.Common.{◌≡◌, ◌-◌, ◌+◌, ℕ, None, length}
use Rattle.std.specs.List.{slice_index_or}
use Rattle.merc_det.proofs.seen.make_room.Given as goal

abbrev pub invariant-loop-latest : goal.invariant-loop-latest
invariant-loop-latest l = (variable : ℕ) → slice_index_or l.latest.items variable None ≡ slice_index_or l.fn.latest.items variable None

abbrev pub decreases-loop-latest : goal.decreases-loop-latest
decreases-loop-latest l = l.number + 1 - length l.latest.items
