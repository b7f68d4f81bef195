use Rattle.merc_shown_laws.proofs.laws.roots_show_runs.Goals as goal
use Rattle.merc_shown_laws.proofs.Roots.{roots_show}

abbrev pub returns : goal.returns
returns c = roots_show
