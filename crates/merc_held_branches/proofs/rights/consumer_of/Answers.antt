use Rattle.std.proofs.Common.{rules}
use Rattle.merc_held_branches.proofs.Picking.{consumer_read, consumer_none}
use Rattle.merc_held_branches.proofs.rights.consumer_of.Goals as goal

pub returns-then-place-signals : goal.returns-then-place-signals
returns-then-place-signals g c = consumer_read c.args.signals.now c.args.place c.index-signals-place.result (search rules) c.index-signals-place.is

pub returns-else-place-signals : goal.returns-else-place-signals
returns-else-place-signals g c = let far = c.if-place-signals.false in consumer_none c.args.signals.now c.args.place (search rules)
