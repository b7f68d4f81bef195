use Rattle.merc_plan.proofs.laws.scripts_account.Goals as goal
use Rattle.merc_plan.proofs.Items.{accounts}

abbrev pub returns : goal.returns
returns c = accounts
