use Rattle.std.proofs.Common.{refl}
use Rattle.merc_stealing.proofs.HandLaws.{kept_own, kept_runs}
use Rattle.merc_stealing.proofs.facing.StealingBoardBoard.woken.Goals as goal

pub returns-clause-own : goal.returns-clause-own
returns-clause-own g c board seat at own =
    (own.0, kept_own g.M.Load.root g.N.Room.table c.args.hold.now _ at (record { berth = refl; place = refl; link = refl; named = λ table n. record { waits = n.waits; signals = n.signals } }) own.1)

pub returns-clause-starved : goal.returns-clause-starved
returns-clause-starved g c board seat runs =
    (runs.0, kept_runs g.M.Load.root g.N.Room.table c.args.hold.now _ (record { berth = refl; place = refl; link = refl; named = λ table n. record { waits = n.waits; signals = n.signals } }) runs.1)
