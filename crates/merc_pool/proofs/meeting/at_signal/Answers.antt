use Rattle.std.proofs.Common.{sym}
use Rattle.merc_board.specs.Boarding.{lost_at}
use Rattle.merc_pool.proofs.Meetings.{signal_asks, signal_past}
use Rattle.merc_pool.proofs.meeting.at_signal.Goals as goal

pub returns-in_default : goal.returns-in_default
returns-in_default g c = let come = c.requires.come in rw c.deref_mut.ensures.value (lost_at come.0 come.1, c.requires.allowed)

pub signal_right-requires : goal.signal_right-requires
signal_right-requires g c =
    let come = c.requires.come in
    rw (c.deref_mut-2.ensures.value, c.deref_mut.ensures.value) (c.args.shared.now.board, c.args.worker.now.seat, come.0, come.1)

pub returns-in_default-signal_right : goal.returns-in_default-signal_right
returns-in_default-signal_right g c =
    let r = rw (c.deref_mut-2.ensures.value, c.deref_mut.ensures.value) at c.in_default-signal_right.ensures in
    let come = c.requires.come in
    (lost_at come.0 (r.own c.args.shared.now.board c.args.worker.now.seat come.0 come.1), c.requires.allowed)

pub signal-requires : goal.signal-requires
signal-requires g c =
    let v = c.deref_mut-2.ensures.value in
    let w = c.deref_mut.ensures.value in
    let r = rw (v, w) at c.in-Some.ensures in
    let q = rw w at c.in-Ok.ensures in
    let branch = c.args.branch.value in
    let come = c.requires.come in
    let seat = c.args.worker.now.seat in
    let board = c.args.shared.now.board in
    let s = come.3.1 in
    let got = q.goes_on come.3.0 s.forked s.next s.on.means in
    let asks = signal_asks g.M.Engine g.N.Asked g.B.Board board seat branch.load branch.hold c.signal_right.new.hold c.args.variable (g.B.Board.signal_cell c.in-Some.right) c.in-Ok.value come r.some (r.own board seat) got.0 in
    (c.signal_right.new.hold, asks.0, asks.1, asks.2, asks.3, asks.4)

pub returns : goal.returns
returns g c =
    let v = c.deref_mut-2.ensures.value in
    let w = c.deref_mut.ensures.value in
    let r = rw (v, w) at c.in-Some.ensures in
    let q = rw w at c.in-Ok.ensures in
    let branch = c.args.branch.value in
    let come = c.requires.come in
    let seat = c.args.worker.now.seat in
    let board = c.args.shared.now.board in
    let s = come.3.1 in
    let got = q.goes_on come.3.0 s.forked s.next s.on.means in
    rw (v, w) (
      signal_past g.M.Engine g.N.Asked g.B.Board board seat c.signal.new.seat branch.load branch.hold c.signal_right.new.hold c.value_of.new.self c.args.variable (g.B.Board.signal_cell c.in-Some.right) come r.some (r.own board seat)
          q.same_steps.0 q.same_steps.1 got.1 c.signal.ensures.own,
      λ yes. c.signal.ensures.count.1 (c.requires.allowed yes),
    )
