use Rattle.merc_core.proofs.laws.each_waiter.Goals as goal
use Rattle.merc_core.proofs.Waiters.{each_waiter}

pub returns : goal.returns
returns c = each_waiter
