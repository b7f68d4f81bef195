use Rattle.merc_board.specs.Boarding.{lost_at}
use Rattle.merc_board.specs.Going.{next}
use Rattle.merc_pool.proofs.Meetings.{wait_past}
use Rattle.merc_pool.proofs.meeting.give.Goals as goal

pub returns-in-Ok : goal.returns-in-Ok
returns-in-Ok g c = λ board seat given.
    let v = c.deref_mut.ensures.value in
    let branch = c.args.branch.value in
    let stopped = rw c.deref.ensures at c.in-AtWait.is in
    let r = rw v at c.in-Ok.ensures in
    rw v (wait_past g.M.Engine g.N.Asked g.B.Board board seat branch.load branch.hold c.give.new.self c.in-AtWait.variable c.args.value given stopped r.same_steps.0 r.same_steps.1 r.goes_on)

pub returns : goal.returns
returns g c = λ board seat given. rw c.deref_mut.ensures.value (lost_at (next given.at) given.owned)
