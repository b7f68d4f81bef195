use Rattle.merc_core.specs.Stepping.{holding}
use Rattle.merc_core.proofs.running.next_of.Goals as goal

pub returns-in-Some : goal.returns-in-Some
returns-in-Some c = holding c.in-Some.field-0 c.in-Some.is
