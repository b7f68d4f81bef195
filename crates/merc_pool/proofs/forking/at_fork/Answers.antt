use Rattle.merc_board.specs.Boarding.{lost, lost_at}
use Rattle.merc_pool.proofs.Forks.{prepares}
use Rattle.merc_pool.proofs.Lists.{at_get}
use Rattle.merc_pool.proofs.forking.at_fork.Goals as goal

pub returns-in_default : goal.returns-in_default
returns-in_default g c = let come = c.requires.come in (lost_at come.0 come.1, c.requires.allowed)

pub returns-in_default-start : goal.returns-in_default-start
returns-in_default-start g c = let come = c.requires.come in (lost_at come.0 come.1, c.requires.allowed)

pub prepare-requires : goal.prepare-requires
prepare-requires g c =
    let there = rw c.deref.ensures.value at c.in-Some.ensures.lookup in
    let share = c.in-Some.share.now in
    let shares = c.args.shared.now.sites.items in
    let found = at_get shares c.args.site.number share there.3.0 there.1 in
    let branch = c.args.branch.value in
    let limit = rw c.deref-2.ensures at c.left-limit.ensures in
    let children = rw c.deref-3.ensures at c.in-Ok.ensures in
    rw (c.deref-4.ensures.value, c.deref-5.ensures.value) (
    prepares g.M.Engine g.N.Asked g.B.Board c.args.shared.now.board c.args.worker.now.seat branch.load branch.hold c.args.site shares share c.left-limit.result c.in-Ok.loads.items
    c.requires.come c.requires.sites found limit children
    )

pub returns-in-Ok-prepare : goal.returns-in-Ok-prepare
returns-in-Ok-prepare g c =
    (c.found.ensures c.args.shared.now.board c.fork-first.new.seat c.fork-first.ensures.found, λ yes. c.fork-first.ensures.count.1 (c.prepare.ensures.count.1 (c.requires.allowed yes)))

pub returns-in-Err : goal.returns-in-Err
returns-in-Err g c = (lost c.in-Err.ensures.err, λ yes. c.prepare.ensures.count.1 (c.requires.allowed yes))
