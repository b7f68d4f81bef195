use Rattle.std.proofs.Common.{subst, sym}
use Rattle.merc_stealing.specs.Seats.{ArePasses}
use Rattle.merc_stealing.proofs.Reaching.{signal_own}
use Rattle.merc_stealing.proofs.facing.StealingBoardBoard.signal.Goals as goal

pub returns-clause-own : goal.returns-clause-own
returns-clause-own g c hold at rest own left = (subst (λ (v : _). ArePasses c.args.self.now.thieves.items v.items) (sym c.signal.ensures) own.0, signal_own g.M.Load.root g.N.Room.table hold at _ rest own.1 left)
