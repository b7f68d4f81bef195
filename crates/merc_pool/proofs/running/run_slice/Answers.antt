use Rattle.std.proofs.Common.{refl}
use Rattle.merc_pool.proofs.Ran.{runs_to, runs_counted}
use Rattle.merc_pool.proofs.running.run_slice.Goals as goal

pub returns-clause-runs : goal.returns-clause-runs
returns-clause-runs g c = λ rights from stands.
    let r = c.run-progress.ensures in
    runs_to g.M.Engine g.N.Asked.sites g.N.Asked.root g.N.Asked.run c.args.progress.now _ refl refl c.args.slice c.args.ticks.now c.run-progress.new.ticks rights from c.run-progress.result stands r.ran r.again r.over refl

pub returns-clause-counts : goal.returns-clause-counts
returns-clause-counts g c =
    let r = c.run-progress.ensures in
    let s = c.requires.stands in
    runs_counted g.M.Engine g.N.Asked.sites g.N.Asked.root g.N.Asked.run c.args.progress.now
    (record c.args.progress.now { machine = c.run-progress.new.self; stop = c.run-progress.result }) refl refl
    c.args.slice c.args.ticks.now c.run-progress.new.ticks s.0 s.1 c.run-progress.result s.2 r.ran r.again
