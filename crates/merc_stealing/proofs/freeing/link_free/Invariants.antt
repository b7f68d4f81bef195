use Rattle.std.specs.Prelude.{[]}
use Rattle.merc_yard.specs.declared.spot.Purpose.TheVariants.{Free}
use Rattle.merc_yard.specs.Slots.{spot}
use Rattle.merc_yard.specs.Yards.{yard_table}
use Rattle.merc_stealing.proofs.freeing.link_free.Given as goal

abbrev pub ghosts-link_at : goal.ghosts-link_at
ghosts-link_at g a = record { spot = spot (yard_table a.lot.now) [] 0 Free }
