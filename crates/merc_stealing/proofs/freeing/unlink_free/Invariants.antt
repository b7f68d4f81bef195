use Rattle.merc_yard.specs.Berths.{spot_of}
use Rattle.merc_stealing.proofs.freeing.unlink_free.Given as goal

abbrev pub ghosts-unlink_to : goal.ghosts-unlink_to
ghosts-unlink_to g a = record { spot = spot_of a.berth }
