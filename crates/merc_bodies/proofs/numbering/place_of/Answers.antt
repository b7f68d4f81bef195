use Rattle.merc_bodies.proofs.Places.{found_at, found_nowhere}
use Rattle.merc_bodies.proofs.numbering.place_of.Goals as goal

pub returns-in-Ok-clause-place : goal.returns-in-Ok-clause-place
returns-in-Ok-clause-place c = found_at c.args.own.now c.requires c.args.variable c.in-Ok.place c.in-Ok.ensures.position

pub returns-in-Err-clause-place : goal.returns-in-Err-clause-place
returns-in-Err-clause-place c = found_nowhere c.args.own.now c.requires c.args.variable c.in-Err.field-0 c.in-Err.ensures.position
