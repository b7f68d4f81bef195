use Rattle.std.proofs.Common.{rules}
use Rattle.merc_cell.specs.declared.glance.Slot.TheVariants.{Waiter}
use Rattle.merc_cell.proofs.Keeping.{takes_waiter, still}
use Rattle.merc_cell.proofs.steps.take_waiter.Goals as goal

pub load-requires : goal.load-requires
load-requires g c = (search rules, search rules, takes_waiter g.V.Fits.fits g.W.Fits.fits _ _ _ c.requires.1)

pub exchange-requires : goal.exchange-requires
exchange-requires g c = let taken = c.load.ensures.2.1 in (search rules, (Waiter taken.0, still _ _ _ taken.1))
