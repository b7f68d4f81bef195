use Rattle.merc_order_laws.proofs.NoGaps.{no_gaps, are_below, asked_no_gaps}
use Rattle.merc_order_laws.proofs.predicate_bodies.bodies_have_no_gaps.Goals as goal

abbrev pub returns-clause-predicate : goal.returns-clause-predicate
returns-clause-predicate c = no_gaps

abbrev pub returns-clause-below : goal.returns-clause-below
returns-clause-below c = are_below

abbrev pub returns-clause-asked : goal.returns-clause-asked
returns-clause-asked c = asked_no_gaps
