use Rattle.merc_stealing.specs.Hands.{is_root_hold}
use Rattle.merc_stealing.proofs.HandLaws.{may_go_on}
use Rattle.merc_stealing.proofs.Reaching.{ticks_own}
use Rattle.merc_stealing.proofs.facing.StealingBoardBoard.go_on.Goals as goal

pub returns-clause-own : goal.returns-clause-own
returns-clause-own g c from at own ticked = (own.0, ticks_own g.M.Load.root g.N.Room.table c.args._hold.now from _ at own.1 ticked)

pub returns-clause-may_run : goal.returns-clause-may_run
returns-clause-may_run g c = may_go_on (is_root_hold c.args._hold.now)
