use Rattle.merc_yard.proofs.Keeping.{opens}
use Rattle.merc_yard.proofs.calls.open_yard.Goals as goal

pub vacant-requires : goal.vacant-requires
vacant-requires g c = opens g.L.Lies.lies _ _
