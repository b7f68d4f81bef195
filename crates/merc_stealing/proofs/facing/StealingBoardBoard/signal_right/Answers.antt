use Rattle.merc_stealing.proofs.HandLaws.{kept_own}
use Rattle.merc_stealing.proofs.facing.StealingBoardBoard.signal_right.Goals as goal

pub invariant_of-result : goal.invariant_of-result
invariant_of-result g c = record { named = c.in-Some.ensures.named g.N.Room.table c.requires.3.1.runs.named }

pub returns-in-Some-clause-own : goal.returns-in-Some-clause-own
returns-in-Some-clause-own g c board seat at own = (own.0, kept_own g.M.Load.root g.N.Room.table c.args.hold.now c.take_signal.new.hold at c.take_signal.ensures.kept own.1)

pub returns-in-None-clause-own : goal.returns-in-None-clause-own
returns-in-None-clause-own g c board seat at own = (own.0, kept_own g.M.Load.root g.N.Room.table c.args.hold.now c.take_signal.new.hold at c.take_signal.ensures.kept own.1)
