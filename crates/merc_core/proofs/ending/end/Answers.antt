use Rattle.std.proofs.Common.{refl}
use Rattle.merc_core.specs.Stepping.{parts_of}
use Rattle.merc_core.proofs.StandingLaws.{there}
use Rattle.merc_core.proofs.Acting.{runs-none}
use Rattle.merc_core.proofs.Simple.{hand-within}
use Rattle.merc_core.proofs.EndedAt.{end-few, end-done, end-refused}
use Rattle.merc_core.proofs.ending.end.Goals as goal

pub next_of-requires : goal.next_of-requires
next_of-requires c =
    let stands = (there c.args.state.now.workers.items c.args.worker c.index.result.now c.requires.worker c.index.ensures).1 in
    hand-within _ (parts_of c.args.state.now) c.requires.kept.world c.requires.kept.mirrors c.requires.kept.fit c.args.worker c.index.result.now stands

pub finish-requires-clause-few : goal.finish-requires-clause-few
finish-requires-clause-few c =
    let stands = (there c.args.state.now.workers.items c.args.worker c.index.result.now c.requires.worker c.index.ensures).1 in
    end-few c.args.course.now.items.items (parts_of c.args.state.now) c.requires.kept.world c.requires.kept.mirrors c.requires.kept.fit c.args.worker c.index.result.now stands c.in-Some.next c.in-End.outcome c.in-Some.ensures c.in-End.is

pub finish-requires-clause-runs : goal.finish-requires-clause-runs
finish-requires-clause-runs c =
    let stands = (there c.args.state.now.workers.items c.args.worker c.index.result.now c.requires.worker c.index.ensures).1 in
    (c.index.result.now, c.in-Some.next, stands, c.in-Some.ensures)

pub returns-in-None : goal.returns-in-None
returns-in-None c = λ root w course mirrors fit.
    let stands = (there c.args.state.now.workers.items c.args.worker c.index.result.now c.requires.worker c.index.ensures).1 in
    (runs-none _ (parts_of c.args.state.now) w mirrors c.args.worker c.index.result.now stands fit c.in-None.ensures _, refl)

pub returns-in-End : goal.returns-in-End
returns-in-End c = λ root w course mirrors fit.
    let stands = (there c.args.state.now.workers.items c.args.worker c.index.result.now c.requires.worker c.index.ensures).1 in
    end-done c.args.course.now.items.items (parts_of c.args.state.now) w mirrors fit c.args.worker c.index.result.now stands c.in-Some.next c.in-End.outcome c.in-Some.ensures c.in-End.is _ c.finish.ensures

pub returns-in_default : goal.returns-in_default
returns-in_default c = λ root w course mirrors fit.
    let stands = (there c.args.state.now.workers.items c.args.worker c.index.result.now c.requires.worker c.index.ensures).1 in
    (end-refused _ (parts_of c.args.state.now) w mirrors fit c.args.worker c.index.result.now stands c.in-Some.next c.in-Some.ensures c.in_default.not-End, refl)
