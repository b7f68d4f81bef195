use Rattle.merc_meaning.proofs.laws.truth_by_stages.Goals as goal
use Rattle.merc_meaning.proofs.Stages.{apart, yes-stays-later, no-stays-later}

abbrev pub returns-clause-apart : goal.returns-clause-apart
returns-clause-apart c = apart

abbrev pub returns-clause-yes_stays : goal.returns-clause-yes_stays
returns-clause-yes_stays c = yes-stays-later

abbrev pub returns-clause-no_stays : goal.returns-clause-no_stays
returns-clause-no_stays c = no-stays-later
