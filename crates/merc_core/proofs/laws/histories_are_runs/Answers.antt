use Rattle.merc_core.proofs.laws.histories_are_runs.Goals as goal
use Rattle.merc_core.proofs.Histories.{histories_are_runs}

pub returns : goal.returns
returns c = histories_are_runs
