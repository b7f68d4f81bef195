use Rattle.merc_board.specs.Boarding.{lost_at, starves}
use Rattle.merc_pool.proofs.Meetings.{wait_asks}
use Rattle.merc_pool.proofs.meeting.at_wait.Goals as goal

pub returns-in_default : goal.returns-in_default
returns-in_default g c =
    let v = c.deref_mut.ensures.value in
    let r = rw v at c.in_default.ensures in
    let come = c.requires.come in
    (lost_at come.0 (r.own c.args.shared.now.board c.args.worker.now.seat come.0 come.1), c.requires.allowed)

pub wait-requires : goal.wait-requires
wait-requires g c =
    let v = c.deref_mut.ensures.value in
    let r = rw v at c.in-Some.ensures in
    let branch = c.args.branch.value in
    let seat = c.args.worker.now.seat in
    rw v (wait_asks g.M.Engine g.N.Asked g.B.Board c.args.shared.now.board seat branch.load branch.hold c.wait_right.new.hold c.args.variable (g.B.Board.wait_cell c.in-Some.right) c.requires.come r.some
    (r.own c.args.shared.now.board seat))

pub returns-in-Starved : goal.returns-in-Starved
returns-in-Starved g c = (starves c.in-Starved.ensures.waited, λ yes. c.wait.ensures.count.1 (c.requires.allowed yes))
