use Rattle.merc_scopes.proofs.PlaceLaws.{taken_out}
use Rattle.merc_scopes.proofs.first_places.FirstPlaces.take.Goals as goal

pub returns-clause-places : goal.returns-clause-places
returns-clause-places c = λ other. taken_out c.args.name other _ _ (c.remove.ensures.updates.0 other)
