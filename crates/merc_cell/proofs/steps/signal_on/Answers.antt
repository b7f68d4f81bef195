use Rattle.std.proofs.Common.{rules, false}
use Rattle.merc_cell.specs.declared.glance.Slot.TheVariants.{Value}
use Rattle.merc_cell.proofs.Keeping.{grabs, held, signals}
use Rattle.merc_cell.proofs.steps.signal_on.Goals as goal

pub load-requires : goal.load-requires
load-requires g c = (search rules, search rules, grabs g.V.Fits.fits g.W.Fits.fits false _ _ _ c.requires.seat.1)

pub fetch_or-found-requires : goal.fetch_or-found-requires
fetch_or-found-requires g c = (
  search rules,
  search rules,
  signals g.V.Fits.fits g.W.Fits.fits _ _ _ _ c.args.value c.requires.fits (held g.V.Fits.fits g.W.Fits.fits false (Value c.args.value) _ _ _ c.requires.seat.1 c.load.ensures.2 c.exchange.ensures.3),
)
