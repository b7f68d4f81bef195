use Rattle.merc_yard.specs.declared.spot.Purpose.TheVariants.{Ready}
use Rattle.merc_held_branches.specs.Spots.{used}
use Rattle.merc_held_branches.specs.Owning.{spot_held}
use Rattle.merc_stealing.proofs.mooring.moor_ready.Given as goal

abbrev pub ghosts-moor_at : goal.ghosts-moor_at
ghosts-moor_at g a = record { spot = used Ready (spot_held a.branch.value.hold.berth) }
