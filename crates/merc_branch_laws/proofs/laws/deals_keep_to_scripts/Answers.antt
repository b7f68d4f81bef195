use Rattle.merc_branch_laws.proofs.laws.deals_keep_to_scripts.Goals as goal
use Rattle.merc_branch_laws.proofs.Runs.{keeps, some_run}

abbrev pub returns-clause-runs : goal.returns-clause-runs
returns-clause-runs c = keeps

abbrev pub returns-clause-some : goal.returns-clause-some
returns-clause-some c = some_run
