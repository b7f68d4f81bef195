use Rattle.std.proofs.Common.{◌≡◌, refl, subst}
use Rattle.merc_core.specs.declared.worker.Worker.{Worker}
use Rattle.merc_core.specs.Stepping.{parts_of, RunsNext}
use Rattle.merc_core.proofs.StandingLaws.{there}
use Rattle.merc_core.proofs.Acting.{runs-none, same-worker}
use Rattle.merc_core.proofs.Simple.{hand-within, hand-room, tick-done, tick-refused}
use Rattle.merc_core.proofs.simple_events.tick.Goals as goal

pub next_of-requires : goal.next_of-requires
next_of-requires c =
    let stands = (there c.args.state.now.workers.items c.args.worker c.index.result.now c.requires.worker c.index.ensures).1 in
    hand-within _ (parts_of c.args.state.now) c.requires.kept.world c.requires.kept.mirrors c.requires.kept.fit c.args.worker c.index.result.now stands

pub pass_tick-requires : goal.pass_tick-requires
pass_tick-requires c =
    let read = (there c.args.state.now.workers.items c.args.worker c.index.result.now c.requires.worker c.index.ensures).1 in
    let stands = (there c.args.state.now.workers.items c.args.worker c.index_mut.result.now c.requires.worker c.index_mut.ensures.value).1 in
    let same : c.index.result.now ≡ c.index_mut.result.now = same-worker c.args.state.now.workers.items c.args.worker _ _ read stands in
    hand-room _ (parts_of c.args.state.now) c.requires.kept.world c.requires.kept.mirrors c.requires.kept.fit c.args.worker c.index_mut.result.now stands c.in-Some.next
    (subst (λ (k : Worker). RunsNext c.args.course.now.items.items k c.in-Some.next) same c.in-Some.ensures) c.requires.kept.course.small

pub returns-in-None : goal.returns-in-None
returns-in-None c = λ root w course mirrors fit.
    let stands = (there c.args.state.now.workers.items c.args.worker c.index.result.now c.requires.worker c.index.ensures).1 in
    (runs-none _ (parts_of c.args.state.now) w mirrors c.args.worker c.index.result.now stands fit c.in-None.ensures _, refl)

pub returns-in-Tick : goal.returns-in-Tick
returns-in-Tick c = λ root w course mirrors fit.
    let read = (there c.args.state.now.workers.items c.args.worker c.index.result.now c.requires.worker c.index.ensures).1 in
    let stands = (there c.args.state.now.workers.items c.args.worker c.index_mut.result.now c.requires.worker c.index_mut.ensures.value).1 in
    let same : c.index.result.now ≡ c.index_mut.result.now = same-worker c.args.state.now.workers.items c.args.worker _ _ read stands in
    tick-done _ (parts_of c.args.state.now) w mirrors fit c.args.worker c.index_mut.result.now stands c.in-Some.next
    (subst (λ (k : Worker). RunsNext c.args.course.now.items.items k c.in-Some.next) same c.in-Some.ensures) c.in-Tick.is _ c.pass_tick.ensures refl refl

pub returns-in_default : goal.returns-in_default
returns-in_default c = λ root w course mirrors fit.
    let stands = (there c.args.state.now.workers.items c.args.worker c.index.result.now c.requires.worker c.index.ensures).1 in
    (tick-refused _ (parts_of c.args.state.now) w mirrors fit c.args.worker c.index.result.now stands c.in-Some.next c.in-Some.ensures c.in_default.not-Tick, refl)
