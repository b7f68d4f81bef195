use Rattle.std.specs.Prelude.{suc}
use Rattle.merc_yard.specs.Berths.{spot_of}
use Rattle.merc_join.specs.Tickets.{ticket_parent, ticket_child}
use Rattle.merc_held_branches.specs.Spots.{child_spot}
use Rattle.merc_stealing.proofs.placing.child_berth.Given as goal

abbrev pub ghosts-move_as : goal.ghosts-move_as
ghosts-move_as g a = record { spot = child_spot (spot_of (ticket_parent a._ticket.now).berth) (suc (ticket_child a._ticket.now)) }
