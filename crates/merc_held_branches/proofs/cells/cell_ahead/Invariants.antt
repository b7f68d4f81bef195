use Rattle.merc_held_branches.specs.Beds.{cell_name}
use Rattle.merc_held_branches.specs.Owning.{spot_held}
use Rattle.merc_held_branches.specs.Sharing.{cells_ahead, number_at}
use Rattle.merc_held_branches.proofs.cells.cell_ahead.Given as goal

abbrev pub ghosts-cell_as : goal.ghosts-cell_as
ghosts-cell_as g a = record { name = cell_name (spot_held a._hold.now.berth).yard.table_id (number_at (cells_ahead g.M.Load.root (spot_held a._hold.now.berth)) a._place) }
