use Rattle.std.proofs.Common.{rules}
use Rattle.merc_join.proofs.Dealing.{takes_place, brings, brought}
use Rattle.merc_join.proofs.making.bring_parent.Goals as goal

pub load-requires : goal.load-requires
load-requires g c = (search rules, search rules, takes_place g.P.Forked.ends _ _ _ _ _ _ c.requires.1)

pub load-requires-2 : goal.load-requires-2
load-requires-2 g c = (search rules, search rules, brings g.P.Forked.ends _ _ _ _ _ _ (brought c.args.children c.args.parent _ _ _ c.requires.1 c.load.ensures.2 c.exchange.ensures.3))
