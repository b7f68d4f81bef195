use Rattle.merc_pool.proofs.BehindForks.{has-rejoined, stands-behind, steps-left-there}
use Rattle.merc_pool.proofs.ending.rejoin.Goals as goal

pub rejoin-requires-clause-within : goal.rejoin-requires-clause-within
rejoin-requires-clause-within g c = steps-left-there g.M.Engine g.N.Asked.sites g.N.Asked.root g.N.Asked.run c.args.progress.now c.requires.0 c.requires.1 c.args.outcome c.requires.2

pub returns : goal.returns
returns g c = λ rights at joins. stands-behind g.M.Engine g.N.Asked.sites g.N.Asked.root g.N.Asked.run c.args.progress.now rights at c.args.outcome c.rejoin.new.self c.used-progress.result joins
    (has-rejoined (g.M.Engine.seen c.args.progress.now.machine) (g.M.Engine.seen c.rejoin.new.self) c.args.progress.now.stop c.in-AtFork.site joins.fork.site c.args.outcome c.in-AtFork.is joins.fork.stopped
    c.rejoin.ensures.goes_on c.rejoin.ensures.ends c.rejoin.ensures.spends)
    c.used-progress.ensures
