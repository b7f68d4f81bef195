use Rattle.std.specs.Prelude.{[]}
use Rattle.merc_yard.specs.declared.spot.Purpose.TheVariants.{Ready}
use Rattle.merc_yard.specs.Slots.{spot}
use Rattle.merc_yard.specs.Yards.{yard_table}
use Rattle.merc_stealing.proofs.opening.root_berth.Given as goal

abbrev pub ghosts-move_to_root : goal.ghosts-move_to_root
ghosts-move_to_root g a = record { spot = spot (yard_table a.lot.now) [] 0 Ready }
