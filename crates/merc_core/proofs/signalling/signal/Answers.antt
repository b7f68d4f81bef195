use Rattle.std.proofs.Common.{◌≡◌, refl, subst}
use Rattle.merc_core.specs.declared.worker.Worker.{Worker}
use Rattle.merc_core.specs.Stepping.{parts_of, RunsNext}
use Rattle.merc_core.proofs.StandingLaws.{there}
use Rattle.merc_core.proofs.Acting.{runs-none, same-worker}
use Rattle.merc_core.proofs.Simple.{hand-within, hand-room}
use Rattle.merc_core.proofs.SignalledAt.{signals, woken-room, signal-done, signal-refused}
use Rattle.merc_core.proofs.signalling.signal.Goals as goal

pub next_of-requires : goal.next_of-requires
next_of-requires c =
    let stands = (there c.args.state.now.workers.items c.args.worker c.index.result.now c.requires.worker c.index.ensures).1 in
    hand-within _ (parts_of c.args.state.now) c.requires.kept.world c.requires.kept.mirrors c.requires.kept.fit c.args.worker c.index.result.now stands

pub pass_item-requires : goal.pass_item-requires
pass_item-requires c =
    let read = (there c.args.state.now.workers.items c.args.worker c.index.result.now c.requires.worker c.index.ensures).1 in
    let stands = (there c.args.state.now.workers.items c.args.worker c.index_mut-runner.result.now c.requires.worker c.index_mut-runner.ensures.value).1 in
    let same : c.index.result.now ≡ c.index_mut-runner.result.now = same-worker c.args.state.now.workers.items c.args.worker _ _ read stands in
    let h = hand-room _ (parts_of c.args.state.now) c.requires.kept.world c.requires.kept.mirrors c.requires.kept.fit c.args.worker c.index_mut-runner.result.now stands c.in-Some.next
    (subst (λ (k : Worker). RunsNext c.args.course.now.items.items k c.in-Some.next) same c.in-Some.ensures) c.requires.kept.course.small in
    (h.0, h.1, h.2)

pub fill-requires : goal.fill-requires
fill-requires c =
    let stands = (there c.args.state.now.workers.items c.args.worker c.index_mut-runner.result.now c.requires.worker c.index_mut-runner.ensures.value).1 in
    woken-room c.args.course.now.items.items (parts_of c.args.state.now) c.requires.kept.world c.requires.kept.mirrors c.requires.kept.fit c.args.worker c.index_mut-runner.result.now stands c.in-Signal.cell

pub returns-in-None : goal.returns-in-None
returns-in-None c = λ root w course mirrors fit.
    let stands = (there c.args.state.now.workers.items c.args.worker c.index.result.now c.requires.worker c.index.ensures).1 in
    (runs-none _ (parts_of c.args.state.now) w mirrors c.args.worker c.index.result.now stands fit c.in-None.ensures _, refl)

pub returns-in-Signal : goal.returns-in-Signal
returns-in-Signal c = λ root w course mirrors fit.
    let read = (there c.args.state.now.workers.items c.args.worker c.index.result.now c.requires.worker c.index.ensures).1 in
    let stands = (there c.args.state.now.workers.items c.args.worker c.index_mut-runner.result.now c.requires.worker c.index_mut-runner.ensures.value).1 in
    let same : c.index.result.now ≡ c.index_mut-runner.result.now = same-worker c.args.state.now.workers.items c.args.worker _ _ read stands in
    let runs = subst (λ (k : Worker). RunsNext c.args.course.now.items.items k c.in-Some.next) same c.in-Some.ensures in
    let at = signals c.args.course.now.items.items (parts_of c.args.state.now) w mirrors fit c.args.worker c.index_mut-runner.result.now stands c.in-Some.next c.in-Signal.cell runs c.in-Signal.is in
    signal-done c.args.course.now.items.items (parts_of c.args.state.now) w mirrors fit c.args.worker c.index_mut-runner.result.now stands c.in-Signal.cell _ c.fill.ensures.cells at _
    c.pass_item.ensures c.fill.ensures.list refl runs.free

pub returns-in_default : goal.returns-in_default
returns-in_default c = λ root w course mirrors fit.
    let stands = (there c.args.state.now.workers.items c.args.worker c.index.result.now c.requires.worker c.index.ensures).1 in
    (signal-refused _ (parts_of c.args.state.now) w mirrors fit c.args.worker c.index.result.now stands c.in-Some.next c.in-Some.ensures c.in_default.not-Signal, refl)
