use Rattle.merc_pool.specs.Sessions.{steps_of}
use Rattle.merc_pool.proofs.Counters.{counted_on}
use Rattle.merc_pool.proofs.session.count_all.Goals as goal

pub loop-slot-preserved : goal.loop-slot-preserved
loop-slot-preserved g c = counted_on c.args.into.now c.loop-slot.into c.count_slot.new.into (steps_of 0 c.in-Some.slot.hand) c.loop-slot.invariant c.count_slot.ensures
