use Rattle.std.proofs.Common.{rules, arith, subst, sym}
use Rattle.merc_yard.specs.declared.spot.Fill.TheVariants.{Filled}
use Rattle.merc_yard.specs.declared.spot.Purpose.TheVariants.{Forks}
use Rattle.merc_join.specs.Tickets.{ticket_parent, ticket_child}
use Rattle.merc_held_branches.specs.Beds.{IsMoored}
use Rattle.merc_held_branches.specs.Kids.{KidFits}
use Rattle.merc_stealing.proofs.Dealing.{parts}
use Rattle.merc_held_branches.proofs.Lists.{longer}
use Rattle.merc_stealing.proofs.placing.deal.Goals as goal

pub place_child-requires-clause-kid : goal.place_child-requires-clause-kid
place_child-requires-clause-kid g c = let p = parts g.M.Load.root g.M.Load.stands g.N.Room.table _ _ _ _ c.in-Some-Some.kid c.in-Some-Some.ticket c.in-Some-Some.ensures'.items c.in-Some-Some.ensures.items c.loop-ticket.invariant.made in
    subst (λ t. KidFits g.M.Load.root g.M.Load.stands t (ticket_parent c.in-Some-Some.ticket).berth (ticket_child c.in-Some-Some.ticket) c.in-Some-Some.kid.value) (sym c.requires.tied) p.1

pub place_child-requires-clause-parent : goal.place_child-requires-clause-parent
place_child-requires-clause-parent g c = let p = parts g.M.Load.root g.M.Load.stands g.N.Room.table _ _ _ _ c.in-Some-Some.kid c.in-Some-Some.ticket c.in-Some-Some.ensures'.items c.in-Some-Some.ensures.items c.loop-ticket.invariant.made in
    subst (λ t. IsMoored t Filled Forks (ticket_parent c.in-Some-Some.ticket).berth) (sym c.requires.tied) p.2

pub place_child-requires-clause-count : goal.place_child-requires-clause-count
place_child-requires-clause-count g c = (parts g.M.Load.root g.M.Load.stands g.N.Room.table _ _ _ _ c.in-Some-Some.kid c.in-Some-Some.ticket c.in-Some-Some.ensures'.items c.in-Some-Some.ensures.items c.loop-ticket.invariant.made).3

pub loop-ticket-preserved : goal.loop-ticket-preserved
loop-ticket-preserved g c = let was = c.loop-ticket.invariant in
    let fewer = longer _ _ _ c.in-Some-Some.ensures.items in let more = longer _ _ _ c.push_reserved.ensures.items in record {
      made = (parts g.M.Load.root g.M.Load.stands g.N.Room.table _ _ _ _ c.in-Some-Some.kid c.in-Some-Some.ticket c.in-Some-Some.ensures'.items c.in-Some-Some.ensures.items was.made).0;
      count = omega (arith, fewer, more, was.count);
      room = search rules;
    }
