use Rattle.merc_pool.proofs.Forks.{more_children}
use Rattle.merc_pool.proofs.forking.start.Goals as goal

pub loop-number-preserved : goal.loop-number-preserved
loop-number-preserved g c =
    let k = c.in_ok-child.ensures in
    let b = c.begun.ensures in
    more_children g.M.Engine (g.M.Engine.seen c.args.machine.now) c.args.site c.loop-number.number c.loop-number.loads.items c.push.new.self.items c.begun.result c.in_ok-child.child
    c.in_ok-push.ensures.items b.machine b.none.1 c.loop-number.invariant k.means k.forked k.limit.0 k.limit.1
