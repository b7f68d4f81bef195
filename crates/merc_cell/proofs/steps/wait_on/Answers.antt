use Rattle.std.proofs.Common.{rules, true}
use Rattle.merc_cell.specs.declared.glance.Slot.TheVariants.{Waiter}
use Rattle.merc_cell.proofs.Keeping.{grabs, held, waits}
use Rattle.merc_cell.proofs.steps.wait_on.Goals as goal

pub load-requires : goal.load-requires
load-requires g c = (search rules, search rules, grabs g.V.Fits.fits g.W.Fits.fits true _ _ _ c.requires.seat.1)

pub fetch_or-found-requires : goal.fetch_or-found-requires
fetch_or-found-requires g c = (
  search rules,
  search rules,
  waits g.V.Fits.fits g.W.Fits.fits _ _ _ _ c.args.waiter c.requires.fits (held g.V.Fits.fits g.W.Fits.fits true (Waiter c.args.waiter) _ _ _ c.requires.seat.1 c.load.ensures.2 c.exchange.ensures.3),
)
