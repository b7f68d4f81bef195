use Rattle.std.proofs.Common.{rules, arith}
use Rattle.merc_join.specs.declared.stub.Slot.TheVariants.{Ended}
use Rattle.merc_join.proofs.Ending.{takes_outcome}
use Rattle.merc_join.proofs.Lists.{still}
use Rattle.merc_join.proofs.steps.take_outcome.Goals as goal

pub load-requires : goal.load-requires
load-requires g c = (search rules, search rules, takes_outcome g.P.Forked.ends _ _ _ _ c.requires.1 (omega (arith, c.requires.2, c.requires.3)))

pub exchange-requires : goal.exchange-requires
exchange-requires g c = let taken = c.load.ensures.2.1 in (search rules, (Ended taken.0, still _ _ _ _ _ c.requires.2 taken.1))
