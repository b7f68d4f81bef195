use Rattle.std.proofs.Common.{rules}
use Rattle.merc_cell.proofs.Keeping.{splits}
use Rattle.merc_cell.proofs.calls.new_cell.Goals as goal

pub split_seat-producer-requires : goal.split_seat-producer-requires
split_seat-producer-requires g c = (search rules, search rules, splits g.V.Fits.fits g.W.Fits.fits g.N.CellName.name _ _ (search rules))
