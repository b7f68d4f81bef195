use Rattle.merc_board.specs.Boarding.{starves}
use Rattle.merc_pool.proofs.Meetings.{found_live, found_value, found_starved}
use Rattle.merc_pool.proofs.forking.found.Goals as goal

pub returns-in-No : goal.returns-in-No
returns-in-No g c = λ board seat found.
    let v = c.deref_mut.ensures.value in
    let r = rw v at c.in-No.ensures in
    rw v (found_live g.M.Engine g.N.Asked g.B.Board board seat c.args.branch.value.load c.args.branch.value.hold c.woken.new.hold r.woke found (r.own board seat) r.rights)

pub returns-in-Value : goal.returns-in-Value
returns-in-Value g c = λ board seat found.
    let v = c.deref_mut.ensures.value in
    let r = rw v at c.in-Value.ensures in
    rw v (found_value g.M.Engine g.N.Asked g.B.Board board seat c.args.branch.value.load c.args.branch.value.hold c.woken.new.hold c.in-Value.value r.woke found (r.own board seat) r.rights)

pub returns-in-Starved : goal.returns-in-Starved
returns-in-Starved g c = λ board seat found.
    let v = c.deref_mut.ensures.value in
    let r = rw v at c.in-Starved.ensures in
    starves (found_starved g.M.Engine g.N.Asked g.B.Board board seat c.args.branch.value.load c.args.branch.value.hold c.woken.new.hold r.woke found (r.starved board seat))
