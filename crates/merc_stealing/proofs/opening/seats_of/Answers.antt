use Rattle.std.proofs.Common.{rules}
use Rattle.merc_stealing.specs.Seats.{ArePasses}
use Rattle.merc_held_branches.proofs.Lists.{all_more}
use Rattle.merc_stealing.proofs.opening.seats_of.Goals as goal

pub loop-sparks-preserved : goal.loop-sparks-preserved
loop-sparks-preserved g c = let was = c.loop-sparks.invariant in
    (c.give_berths.ensures.vacant, all_more (λ seat. ArePasses c.args.thieves.now seat.passes.items) c.loop-sparks.seats.items _ c.give_berths.new.seat c.in_ok-push.ensures.items was.1 (search rules))
