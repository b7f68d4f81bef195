use Rattle.std.proofs.Common.{rules}
use Rattle.merc_cell.specs.declared.glance.Slot.TheVariants.{Value}
use Rattle.merc_cell.proofs.Keeping.{takes_value, still}
use Rattle.merc_cell.proofs.steps.take_value.Goals as goal

pub load-requires : goal.load-requires
load-requires g c = (search rules, search rules, takes_value g.V.Fits.fits g.W.Fits.fits _ _ _ c.requires.1 c.requires.2)

pub exchange-requires : goal.exchange-requires
exchange-requires g c = let taken = c.load.ensures.2.1 in (search rules, (Value taken.0, still _ _ _ taken.1))
