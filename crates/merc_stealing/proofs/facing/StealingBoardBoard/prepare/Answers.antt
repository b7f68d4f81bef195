use Rattle.merc_stealing.proofs.HandLaws.{prepares}
use Rattle.merc_stealing.proofs.facing.StealingBoardBoard.prepare.Goals as goal

pub prepare-requires-clause-prepares : goal.prepare-requires-clause-prepares
prepare-requires-clause-prepares g c = (prepares g.M.Load.root g.N.Room.table c.args.self.now.thieves.items c.args.seat.now.passes.items c.args.parent.value.hold g.M.Load.forked g.M.Load.stands c.args.parent.value.load _ c.args.shared.now c.args.given.now
    c.args.limit c.args.loads.items c.requires).1
