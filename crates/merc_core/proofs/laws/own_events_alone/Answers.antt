use Rattle.merc_core.proofs.laws.own_events_alone.Goals as goal
use Rattle.merc_core.proofs.Hands.{own_events_alone}

pub returns : goal.returns
returns c = own_events_alone
