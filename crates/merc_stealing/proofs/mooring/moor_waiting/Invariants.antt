use Rattle.merc_yard.specs.declared.spot.Purpose.TheVariants.{Waits}
use Rattle.merc_held_branches.specs.Spots.{parked_for}
use Rattle.merc_held_branches.specs.Owning.{spot_held}
use Rattle.merc_stealing.proofs.mooring.moor_waiting.Given as goal

abbrev pub ghosts-moor_at : goal.ghosts-moor_at
ghosts-moor_at g a = record { spot = parked_for Waits g.M.Load.root (spot_held a.branch.value.hold.berth) }
