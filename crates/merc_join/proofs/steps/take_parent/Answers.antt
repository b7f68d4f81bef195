use Rattle.std.proofs.Common.{rules, arith}
use Rattle.merc_join.specs.declared.stub.Slot.TheVariants.{Parent}
use Rattle.merc_join.proofs.Ending.{takes_parent}
use Rattle.merc_join.proofs.Lists.{still}
use Rattle.merc_join.proofs.steps.take_parent.Goals as goal

pub load-requires : goal.load-requires
load-requires g c = (search rules, search rules, takes_parent g.P.Forked.ends _ _ _ _ c.requires.1 (omega (arith, c.requires.2, c.requires.3)))

pub exchange-requires : goal.exchange-requires
exchange-requires g c = (search rules, (Parent c.args.seat.now.me.0.parent, still _ _ _ _ _ c.requires.2 c.load.ensures.2.1))
