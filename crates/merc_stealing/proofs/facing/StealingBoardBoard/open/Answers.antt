use Rattle.merc_stealing.specs.Seats.{ArePasses}
use Rattle.merc_held_branches.proofs.Lists.{all_front}
use Rattle.merc_stealing.proofs.facing.StealingBoardBoard.open.Goals as goal

pub returns-in-Some-clause-others : goal.returns-in-Some-clause-others
returns-in-Some-clause-others g c =
    all_front (λ seat. ArePasses c.open_all.new.self.thieves.items seat.passes.items) c.pop.new.self.items c.in_ok-seats.seats.items c.in-Some.home c.in-Some.ensures.items c.in_ok-seats.ensures.seats
