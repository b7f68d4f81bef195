use Rattle.std.proofs.Common.{refl}
use Rattle.merc_core.specs.Stepping.{parts_of}
use Rattle.merc_core.proofs.StandingLaws.{there}
use Rattle.merc_core.proofs.Acting.{runs-none}
use Rattle.merc_core.proofs.Simple.{hand-within}
use Rattle.merc_core.proofs.EndedAt.{lose-done}
use Rattle.merc_core.proofs.ending.lose.Goals as goal

pub next_of-requires : goal.next_of-requires
next_of-requires c =
    let stands = (there c.args.state.now.workers.items c.args.worker c.index.result.now c.requires.worker c.index.ensures).1 in
    hand-within _ (parts_of c.args.state.now) c.requires.kept.world c.requires.kept.mirrors c.requires.kept.fit c.args.worker c.index.result.now stands

pub finish-requires-clause-runs : goal.finish-requires-clause-runs
finish-requires-clause-runs c =
    let stands = (there c.args.state.now.workers.items c.args.worker c.index.result.now c.requires.worker c.index.ensures).1 in
    (c.index.result.now, c.in-Some.field-0, stands, c.in-Some.ensures)

pub returns-in-None : goal.returns-in-None
returns-in-None c = λ root w course mirrors fit.
    let stands = (there c.args.state.now.workers.items c.args.worker c.index.result.now c.requires.worker c.index.ensures).1 in
    (runs-none _ (parts_of c.args.state.now) w mirrors c.args.worker c.index.result.now stands fit c.in-None.ensures _, refl)

pub returns-in-Some : goal.returns-in-Some
returns-in-Some c = λ root w course mirrors fit.
    let stands = (there c.args.state.now.workers.items c.args.worker c.index.result.now c.requires.worker c.index.ensures).1 in
    lose-done c.args.course.now.items.items (parts_of c.args.state.now) w mirrors fit c.args.worker c.index.result.now stands c.in-Some.field-0 c.in-Some.ensures _ c.finish.ensures
