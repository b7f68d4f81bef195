use Rattle.std.proofs.Common.{◌≡◌, ◌≤◌, drop, length}
use Rattle.merc_held_branches.specs.Picking.{lifted, signal_place}
use Rattle.merc_held_branches.proofs.rights.signal_place.Given as goal

abbrev pub invariant-loop-place : goal.invariant-loop-place
invariant-loop-place g l = (l.place ≤ length l.signals) × (l.used ≡ lifted l.place (signal_place l.variable (drop l.place l.signals)))

abbrev pub decreases-loop-place : goal.decreases-loop-place
decreases-loop-place g l = l.place
