use Rattle.std.proofs.Common.{◌≡◌, length, refl, subst, sym, ap, arith}
use Rattle.std.specs.Prelude.{IsSome}
use Rattle.std.specs.Ordering.{nat_cmp}
use Rattle.std.specs.BTreeMap.{get}
use Rattle.merc_core.specs.declared.worker.Worker.{Worker}
use Rattle.merc_core.specs.Stepping.{parts_of, RunsNext}
use Rattle.merc_core.proofs.StandingLaws.{there}
use Rattle.merc_core.proofs.Acting.{runs-none, same-worker}
use Rattle.merc_core.proofs.Simple.{hand-within, hand-room}
use Rattle.merc_core.proofs.WaitingAt.{waits, full-done, poisoned-done, open-done, wait-refused, cell-room}
use Rattle.merc_core.proofs.waiting.wait.Goals as goal

pub next_of-requires : goal.next_of-requires
next_of-requires c =
    let stands = (there c.args.state.now.workers.items c.args.worker c.index.result.now c.requires.worker c.index.ensures).1 in
    hand-within _ (parts_of c.args.state.now) c.requires.kept.world c.requires.kept.mirrors c.requires.kept.fit c.args.worker c.index.result.now stands

pub pass_item-requires : goal.pass_item-requires
pass_item-requires c =
    let read = (there c.args.state.now.workers.items c.args.worker c.index.result.now c.requires.worker c.index.ensures).1 in
    let stands = (there c.args.state.now.workers.items c.args.worker c.index_mut.result.now c.requires.worker c.index_mut.ensures.value).1 in
    let same : c.index.result.now ≡ c.index_mut.result.now = same-worker c.args.state.now.workers.items c.args.worker _ _ read stands in
    let h = hand-room _ (parts_of c.args.state.now) c.requires.kept.world c.requires.kept.mirrors c.requires.kept.fit c.args.worker c.index_mut.result.now stands c.in-Some.next
    (subst (λ (k : Worker). RunsNext c.args.course.now.items.items k c.in-Some.next) same c.in-Some.ensures) c.requires.kept.course.small in
    (h.0, h.1, h.2)

pub pass_item-requires-in-Open : goal.pass_item-requires-in-Open
pass_item-requires-in-Open c =
    let read = (there c.args.state.now.workers.items c.args.worker c.index.result.now c.requires.worker c.index.ensures).1 in
    let stands = (there c.args.state.now.workers.items c.args.worker c.index_mut-runner.result.now c.requires.worker c.index_mut-runner.ensures.value).1 in
    let same : c.index.result.now ≡ c.index_mut-runner.result.now = same-worker c.args.state.now.workers.items c.args.worker _ _ read stands in
    let h = hand-room _ (parts_of c.args.state.now) c.requires.kept.world c.requires.kept.mirrors c.requires.kept.fit c.args.worker c.index_mut-runner.result.now stands c.in-Some.next
    (subst (λ (k : Worker). RunsNext c.args.course.now.items.items k c.in-Some.next) same c.in-Some.ensures) c.requires.kept.course.small in
    (h.0, h.1, h.2)

pub park-requires : goal.park-requires
park-requires c =
    let read = (there c.args.state.now.workers.items c.args.worker c.index.result.now c.requires.worker c.index.ensures).1 in
    let stands = (there c.args.state.now.workers.items c.args.worker c.index_mut-runner.result.now c.requires.worker c.index_mut-runner.ensures.value).1 in
    let same : c.index.result.now ≡ c.index_mut-runner.result.now = same-worker c.args.state.now.workers.items c.args.worker _ _ read stands in
    let runs = subst (λ (k : Worker). RunsNext c.args.course.now.items.items k c.in-Some.next) same c.in-Some.ensures in
    let at = waits c.args.course.now.items.items (parts_of c.args.state.now) c.requires.kept.world c.requires.kept.mirrors c.requires.kept.fit c.args.worker c.index_mut-runner.result.now stands c.in-Some.next c.in-Wait.cell runs c.in-Wait.is in
    let room = cell-room c.args.course.now.items.items (parts_of c.args.state.now) c.requires.kept.world c.requires.kept.mirrors c.requires.kept.fit c.args.worker c.index_mut-runner.result.now stands c.in-Wait.cell at in
    let one : length c.pass_item-in-Open.new.hand ≡ 1 = ap length (c.pass_item-in-Open.ensures at.c at.acts.only) in
    omega (arith, room, one)

pub returns-in-None : goal.returns-in-None
returns-in-None c = λ root w course mirrors fit.
    let stands = (there c.args.state.now.workers.items c.args.worker c.index.result.now c.requires.worker c.index.ensures).1 in
    (runs-none _ (parts_of c.args.state.now) w mirrors c.args.worker c.index.result.now stands fit c.in-None.ensures _, refl)

pub returns-in-Full : goal.returns-in-Full
returns-in-Full c = λ root w course mirrors fit.
    let read = (there c.args.state.now.workers.items c.args.worker c.index.result.now c.requires.worker c.index.ensures).1 in
    let stands = (there c.args.state.now.workers.items c.args.worker c.index_mut.result.now c.requires.worker c.index_mut.ensures.value).1 in
    let same : c.index.result.now ≡ c.index_mut.result.now = same-worker c.args.state.now.workers.items c.args.worker _ _ read stands in
    let runs = subst (λ (k : Worker). RunsNext c.args.course.now.items.items k c.in-Some.next) same c.in-Some.ensures in
    let at = waits c.args.course.now.items.items (parts_of c.args.state.now) w mirrors fit c.args.worker c.index_mut.result.now stands c.in-Some.next c.in-Wait.cell runs c.in-Wait.is in
    full-done c.args.course.now.items.items (parts_of c.args.state.now) w mirrors fit c.args.worker c.index_mut.result.now stands c.in-Wait.cell at c.find_cell.result c.find_cell.ensures c.in-Full.is _
    c.pass_item.ensures refl refl runs.free

pub returns-in-Poisoned : goal.returns-in-Poisoned
returns-in-Poisoned c = λ root w course mirrors fit.
    let read = (there c.args.state.now.workers.items c.args.worker c.index.result.now c.requires.worker c.index.ensures).1 in
    let stands = (there c.args.state.now.workers.items c.args.worker c.index_mut-in-Poisoned.result.now c.requires.worker c.index_mut-in-Poisoned.ensures.value).1 in
    let same : c.index.result.now ≡ c.index_mut-in-Poisoned.result.now = same-worker c.args.state.now.workers.items c.args.worker _ _ read stands in
    let runs = subst (λ (k : Worker). RunsNext c.args.course.now.items.items k c.in-Some.next) same c.in-Some.ensures in
    let at = waits c.args.course.now.items.items (parts_of c.args.state.now) w mirrors fit c.args.worker c.index_mut-in-Poisoned.result.now stands c.in-Some.next c.in-Wait.cell runs c.in-Wait.is in
    poisoned-done c.args.course.now.items.items (parts_of c.args.state.now) w mirrors fit c.args.worker c.index_mut-in-Poisoned.result.now stands c.in-Wait.cell at c.find_cell.result c.find_cell.ensures c.in-Poisoned.is _
    c.end_first.ensures refl refl runs.free

pub returns-in-Open : goal.returns-in-Open
returns-in-Open c = λ root w course mirrors fit.
    let read = (there c.args.state.now.workers.items c.args.worker c.index.result.now c.requires.worker c.index.ensures).1 in
    let stands = (there c.args.state.now.workers.items c.args.worker c.index_mut-runner.result.now c.requires.worker c.index_mut-runner.ensures.value).1 in
    let same : c.index.result.now ≡ c.index_mut-runner.result.now = same-worker c.args.state.now.workers.items c.args.worker _ _ read stands in
    let runs = subst (λ (k : Worker). RunsNext c.args.course.now.items.items k c.in-Some.next) same c.in-Some.ensures in
    let at = waits c.args.course.now.items.items (parts_of c.args.state.now) w mirrors fit c.args.worker c.index_mut-runner.result.now stands c.in-Some.next c.in-Wait.cell runs c.in-Wait.is in
    let some : IsSome (get nat_cmp c.args.state.now.cells c.in-Wait.cell) = subst IsSome (sym at.found.1) refl in
    open-done c.args.course.now.items.items (parts_of c.args.state.now) w mirrors fit c.args.worker c.index_mut-runner.result.now stands c.in-Wait.cell at c.find_cell.result c.find_cell.ensures c.in-Open.is
    c.pass_item-in-Open.new.hand c.pass_item-in-Open.ensures _ (c.park.ensures.branches some) refl refl _ c.park.ensures.cells

pub returns-in_default : goal.returns-in_default
returns-in_default c = λ root w course mirrors fit.
    let stands = (there c.args.state.now.workers.items c.args.worker c.index.result.now c.requires.worker c.index.ensures).1 in
    (wait-refused _ (parts_of c.args.state.now) w mirrors fit c.args.worker c.index.result.now stands c.in-Some.next c.in-Some.ensures c.in_default.not-Wait, refl)
