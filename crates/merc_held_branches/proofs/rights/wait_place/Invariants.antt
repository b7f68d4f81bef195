use Rattle.std.proofs.Common.{◌≡◌, drop}
use Rattle.merc_held_branches.specs.Picking.{wait_place}
use Rattle.merc_held_branches.proofs.rights.wait_place.Given as goal

abbrev pub invariant-loop-place : goal.invariant-loop-place
invariant-loop-place g l = wait_place l.place l.variable (drop l.place l.waits) ≡ wait_place 0 l.variable l.waits
