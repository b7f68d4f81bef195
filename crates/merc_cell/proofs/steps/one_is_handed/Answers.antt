use Rattle.merc_cell.proofs.Keeping.{one_handed}
use Rattle.merc_cell.proofs.steps.one_is_handed.Goals as goal

pub returns : goal.returns
returns g c = one_handed g.V.Fits.fits g.W.Fits.fits
