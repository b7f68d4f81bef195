use Rattle.merc_yard.specs.Berths.{spot_of}
use Rattle.merc_stealing.proofs.mooring.unmoor.Goals as goal

pub returns : goal.returns
returns g c = record { berthed = c.unmoor_to.ensures.berth; spot = c.unmoor_to.ensures.spot; lay = c.unmoor_to.ensures.lay (spot_of c.args.berth) c.requires.0.0 }
