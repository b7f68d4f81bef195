use Rattle.merc_deque.proofs.Keeping.{lost_none}
use Rattle.merc_deque.proofs.laws.nothing_is_lost.Goals as goal

pub returns : goal.returns
returns g c = lost_none
