use Rattle.std.proofs.Common.{rules}
use Rattle.merc_yard.specs.declared.spot.Fill.TheVariants.{Vacant}
use Rattle.merc_yard.proofs.Keeping.{unlocks, fills}
use Rattle.merc_yard.proofs.yard.Yard.put.Goals as goal

pub load-requires : goal.load-requires
load-requires g c = (search rules, search rules, unlocks g.L.Lies.lies _ _ _ c.args.berth.slot Vacant c.requires.berth.0 g.C.NextSpot.spot (search rules) (search rules) (λ _ _ _ _ x. x))

pub load-requires-2 : goal.load-requires-2
load-requires-2 g c = (search rules, search rules, fills g.L.Lies.lies _ _ _ c.args.berth.slot g.C.NextSpot.spot c.args.value c.requires.lies (search rules))
