use Rattle.std.proofs.Common.{rules}
use Rattle.merc_yard.proofs.Keeping.{moves}
use Rattle.merc_yard.proofs.yard.Yard.move_to.Goals as goal

pub load-requires : goal.load-requires
load-requires g c = (search rules, search rules, moves g.L.Lies.lies _ _ _ c.args.berth.slot c.requires.0 g.C.NextSpot.spot (search rules))
