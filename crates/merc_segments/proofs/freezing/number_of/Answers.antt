-- What the search finds is the place's number.
use Rattle.merc_segments.proofs.PlaceLemmas.{found_at, found_nowhere}
use Rattle.merc_segments.proofs.freezing.number_of.Goals as goal

pub returns-in-Ok : goal.returns-in-Ok
returns-in-Ok c = found_at c.args.places.now c.requires c.args.place c.in-Ok.number c.in-Ok.ensures.position

pub returns-in-Err : goal.returns-in-Err
returns-in-Err c = found_nowhere c.args.places.now c.requires c.args.place c.in-Err.field-0 c.in-Err.ensures.position
