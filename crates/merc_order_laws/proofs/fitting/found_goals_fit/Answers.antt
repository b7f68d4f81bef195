use Rattle.merc_order_laws.proofs.fitting.found_goals_fit.Goals as goal
use Rattle.merc_order_laws.proofs.FoundFitting.{found_fits}

abbrev pub returns : goal.returns
returns c = found_fits
