use Rattle.merc_order.proofs.laws.stays_ready.Goals as goal
use Rattle.merc_order.proofs.FromLaws.{from-more}

abbrev pub returns : goal.returns
returns c = λ total modes node bound more. from-more total modes node bound more
