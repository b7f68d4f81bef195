use Rattle.std.proofs.Common.{rules}
use Rattle.merc_cell.proofs.Keeping.{spoils}
use Rattle.merc_cell.proofs.steps.poison_on.Goals as goal

pub fetch_or-found-requires : goal.fetch_or-found-requires
fetch_or-found-requires g c = (search rules, search rules, spoils g.V.Fits.fits g.W.Fits.fits _ _ _ c.requires.1)
