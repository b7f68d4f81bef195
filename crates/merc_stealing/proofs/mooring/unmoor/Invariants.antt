use Rattle.merc_yard.specs.Berths.{spot_of}
use Rattle.merc_held_branches.specs.Spots.{after}
use Rattle.merc_stealing.proofs.mooring.unmoor.Given as goal

abbrev pub ghosts-unmoor_to : goal.ghosts-unmoor_to
ghosts-unmoor_to g a = record { spot = after (spot_of a.berth) }
