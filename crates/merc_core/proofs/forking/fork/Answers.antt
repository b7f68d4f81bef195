use Rattle.std.proofs.Common.{refl, sym, subst}
use Rattle.merc_core.specs.Stepping.{parts_of, IsForkNext}
use Rattle.merc_core.proofs.StandingLaws.{there}
use Rattle.merc_core.proofs.Acting.{runs-none}
use Rattle.merc_core.proofs.Simple.{hand-within}
use Rattle.merc_core.proofs.Forks.{fork-refused}
use Rattle.merc_core.proofs.forking.fork.Goals as goal

pub next_of-requires : goal.next_of-requires
next_of-requires c =
    let stands = (there c.args.state.now.workers.items c.args.worker c.index.result.now c.requires.worker c.index.ensures).1 in
    hand-within _ (parts_of c.args.state.now) c.requires.kept.world c.requires.kept.mirrors c.requires.kept.fit c.args.worker c.index.result.now stands

pub start_children-requires-clause-runs : goal.start_children-requires-clause-runs
start_children-requires-clause-runs c =
    let stands = (there c.args.state.now.workers.items c.args.worker c.index.result.now c.requires.worker c.index.ensures).1 in
    (c.index.result.now, c.in-Some.next, stands, c.in-Some.ensures, subst (λ n. IsForkNext n c.in-Fork.fork.now) (sym c.in-Fork.is) refl)

pub returns-in-None : goal.returns-in-None
returns-in-None c = λ root w course mirrors fit.
    let stands = (there c.args.state.now.workers.items c.args.worker c.index.result.now c.requires.worker c.index.ensures).1 in
    (runs-none _ (parts_of c.args.state.now) w mirrors c.args.worker c.index.result.now stands fit c.in-None.ensures _, refl)

pub returns-in_default : goal.returns-in_default
returns-in_default c = λ root w course mirrors fit.
    let stands = (there c.args.state.now.workers.items c.args.worker c.index.result.now c.requires.worker c.index.ensures).1 in
    (fork-refused _ (parts_of c.args.state.now) w mirrors fit c.args.worker c.index.result.now stands c.in-Some.next c.in-Some.ensures c.in_default.not-Fork, refl)
