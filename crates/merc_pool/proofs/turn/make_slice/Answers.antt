use Rattle.std.proofs.Common.{refl}
use Rattle.merc_board.specs.Boarding.{lost_at, starves}
use Rattle.merc_pool.proofs.Living.{ran_passed, ran_may, ran_told, stopped_counted}
use Rattle.merc_pool.proofs.turn.make_slice.Goals as goal

pub returns-then-not-may_go-clause-err : goal.returns-then-not-may_go-clause-err
returns-then-not-may_go-clause-err g c = starves (c.if-not-may_go.ensures.cut refl)

pub run_load-stop-requires-clause-stands : goal.run_load-stop-requires-clause-stands
run_load-stop-requires-clause-stands g c = λ κs within.
    let live = c.if-not-may_go.ensures.live refl in
    (g.B.Board.rights c.may_go.new.branch.hold, live.0, live.2.1)

pub returns-in-NoMemory-clause-err : goal.returns-in-NoMemory-clause-err
returns-in-NoMemory-clause-err g c = let live = c.if-not-may_go.ensures.live refl in lost_at live.0 live.1

pub report-requires-clause-passed : goal.report-requires-clause-passed
report-requires-clause-passed g c = λ κs within.
    let live = c.if-not-may_go.ensures.live refl in
    let ran = c.run_load-stop.ensures.runs (g.B.Board.rights c.may_go.new.branch.hold) live.0 live.2.1 c.in_default.not-NoMemory in
    (ran.at, ran_passed g.M.Engine g.N.Asked g.B.Board c.args.board.now c.may_go.new.worker.seat 255 c.may_go.new.branch.load c.run_load-stop.new.load c.may_go.new.branch.hold c.run_load-stop.result live ran)

pub report-requires-clause-counted : goal.report-requires-clause-counted
report-requires-clause-counted g c = λ κs within.
    let live = c.if-not-may_go.ensures.live refl in
    let rights = g.B.Board.rights c.may_go.new.branch.hold in
    let ran = c.run_load-stop.ensures.runs rights live.0 live.2.1 c.in_default.not-NoMemory in
    stopped_counted g.M.Engine g.N.Asked.sites g.N.Asked.root g.N.Asked.run c.run_load-stop.new.load.progress rights ran.at c.run_load-stop.result c.in_default.not-NoMemory ran.stopped

pub report-requires-clause-may : goal.report-requires-clause-may
report-requires-clause-may g c = λ κs within.
    let live = c.if-not-may_go.ensures.live refl in
    let ran = c.run_load-stop.ensures.runs (g.B.Board.rights c.may_go.new.branch.hold) live.0 live.2.1 c.in_default.not-NoMemory in
    ran_may g.M.Engine g.N.Asked g.B.Board c.args.board.now c.may_go.new.worker.seat c.may_go.new.worker.may_run c.may_go.new.branch.load c.run_load-stop.new.load c.may_go.new.branch.hold
    c.run_load-stop.result (c.may_go.ensures.allowed c.requires.allowed) live ran (c.if-not-may_go.ensures.may refl)

pub returns-then-report-clause-ok : goal.returns-then-report-clause-ok
returns-then-report-clause-ok g c =
    let live = c.if-not-may_go.ensures.live refl in
    let ran = c.run_load-stop.ensures.runs (g.B.Board.rights c.may_go.new.branch.hold) live.0 live.2.1 c.in_default.not-NoMemory in
    let passed = ran_passed g.M.Engine g.N.Asked g.B.Board c.args.board.now c.may_go.new.worker.seat 255 c.may_go.new.branch.load c.run_load-stop.new.load c.may_go.new.branch.hold
    c.run_load-stop.result live ran in
    let r = c.if-report.ensures in
    ran_told g.M.Engine g.N.Asked g.B.Board c.args.board.now c.may_go.new.worker.seat c.report.new.worker.seat 255 c.may_go.new.branch.load c.run_load-stop.new.load c.report.new.branch.load
    c.may_go.new.branch.hold c.report.new.branch.hold c.run_load-stop.result live ran (r.on refl ran.at passed) r.rights r.progress

pub returns-then-report-clause-allowed : goal.returns-then-report-clause-allowed
returns-then-report-clause-allowed g c = c.report.ensures.allowed

pub returns-else-report-clause-err : goal.returns-else-report-clause-err
returns-else-report-clause-err g c = starves (c.if-report.ensures.cut refl)

pub returns-else-report-clause-allowed : goal.returns-else-report-clause-allowed
returns-else-report-clause-allowed g c = c.report.ensures.allowed
