use Rattle.merc_order_laws.proofs.fitting.typed_goals_fit.Goals as goal
use Rattle.merc_order_laws.proofs.Spelt.{spelt_has_no_switch}
use Rattle.merc_order_laws.proofs.TypedFitting.{typed_fits}
use Rattle.merc_order_laws.proofs.TypesApart.{types_are_told_apart}

pub returns-clause-spelt : goal.returns-clause-spelt
returns-clause-spelt c = spelt_has_no_switch

pub returns-clause-fits : goal.returns-clause-fits
returns-clause-fits c = typed_fits

pub returns-clause-apart : goal.returns-clause-apart
returns-clause-apart c = types_are_told_apart
