use Rattle.std.proofs.Common.{rules}
use Rattle.merc_yard.specs.declared.spot.Fill.TheVariants.{Filled}
use Rattle.merc_yard.proofs.Keeping.{unlocks, empties}
use Rattle.merc_yard.proofs.yard.Yard.take.Goals as goal

pub load-requires : goal.load-requires
load-requires g c = (search rules, search rules, unlocks g.L.Lies.lies _ _ _ c.args.berth.slot Filled c.requires.0 g.C.NextSpot.spot (search rules) (search rules) (λ _ _ _ _ x. x))

pub load-requires-in-Some : goal.load-requires-in-Some
load-requires-in-Some g c = (search rules, search rules, empties g.L.Lies.lies _ _ _ c.args.berth.slot g.C.NextSpot.spot (search rules))
