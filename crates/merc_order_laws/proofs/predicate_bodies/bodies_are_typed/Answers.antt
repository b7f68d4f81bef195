use Rattle.merc_order_laws.proofs.JoinedTyping.{body_typed, asked_typed}
use Rattle.merc_order_laws.proofs.predicate_bodies.bodies_are_typed.Goals as goal

abbrev pub returns-clause-predicate : goal.returns-clause-predicate
returns-clause-predicate c = body_typed

abbrev pub returns-clause-asked : goal.returns-clause-asked
returns-clause-asked c = asked_typed
