use Rattle.merc_pool.proofs.Living.{live_passed, live_told}
use Rattle.merc_pool.proofs.turn.may_go.Goals as goal

pub report-requires-clause-passed : goal.report-requires-clause-passed
report-requires-clause-passed g c = λ κs within.
    let branch = c.args.branch.now in
    (c.requires.live.0, live_passed g.M.Engine g.N.Asked g.B.Board c.args.board.now c.args.worker.now.seat branch.load branch.hold c.requires.live)

pub returns-else-worker-clause-live : goal.returns-else-worker-clause-live
returns-else-worker-clause-live g c = λ yes.
    let branch = c.args.branch.now in
    let seat = c.args.worker.now.seat in
    let r = c.report.ensures in
    let now = c.report.new.branch in
    live_told g.M.Engine g.N.Asked g.B.Board c.args.board.now seat c.report.new.worker.seat branch.load now.load branch.hold now.hold c.requires.live
    (r.on yes c.requires.live.0 (live_passed g.M.Engine g.N.Asked g.B.Board c.args.board.now seat branch.load branch.hold c.requires.live)) r.rights r.progress
