use Rattle.std.proofs.Common.{◌≡◌, ◌∙◌, ◌<◌, ◌++◌, [], ◌∷◌, length, refl, sym, ap, arith}
use Rattle.merc_core.specs.Stepping.{parts_of}
use Rattle.merc_core.specs.declared.worker.Worker.{Worker}
use Rattle.merc_core.proofs.StandingLaws.{there}
use Rattle.merc_core.proofs.Acting.{same-worker}
use Rattle.merc_core.proofs.FinishedAt.{taken-out, done-past, done-waits, done-held, found-same, one-in-hand, roomy-of, few-parents}
use Rattle.merc_core.proofs.ending.finish.Goals as goal

pub poison-requires : goal.poison-requires
poison-requires c =
    let stands = (there c.args.state.now.workers.items c.args.worker c.index_mut-runner.result.now c.requires.worker c.index_mut-runner.ensures.value).1 in
    roomy-of c.args.course.now.items.items (parts_of c.args.state.now) c.requires.kept.world c.requires.kept.mirrors c.args.worker c.index_mut-runner.result.now stands

pub returns-else-join-len : goal.returns-else-join-len
returns-else-join-len c = λ w x others mirrors fit found.
    let stands = (there c.args.state.now.workers.items c.args.worker c.index_mut-runner.result.now c.requires.worker c.index_mut-runner.ensures.value).1 in
    let none = one-in-hand c.args.course.now.items.items (parts_of c.args.state.now) w mirrors c.args.worker c.index_mut-runner.result.now stands c.in-Some.branch c.pop_front.new.self c.in-Some.ensures.items in
    let only : c.index_mut-runner.result.now.hand ≡ c.in-Some.branch ∷ [] = c.in-Some.ensures.items ∙ ap (λ l. c.in-Some.branch ∷ l) none in
    let t = taken-out c.args.course.now.items.items (parts_of c.args.state.now) w mirrors fit c.args.worker c.index_mut-runner.result.now stands c.in-Some.branch only in
    found-same c.args.course.now.items.items (parts_of c.args.state.now) _ w c.args.worker c.args.outcome t.x x t.others others t.is found
    (done-past c.args.course.now.items.items (parts_of c.args.state.now) w mirrors fit c.args.worker c.index_mut-runner.result.now stands c.in-Some.branch only c.args.outcome c.requires.few _ c.poison.ensures.list _ c.poison.ensures.cells
    (omega arith) none refl)

pub move_all-requires : goal.move_all-requires
move_all-requires c =
    let stands = (there c.args.state.now.workers.items c.args.worker c.index_mut-runner.result.now c.requires.worker c.index_mut-runner.ensures.value).1 in
    let none = one-in-hand c.args.course.now.items.items (parts_of c.args.state.now) c.requires.kept.world c.requires.kept.mirrors c.args.worker c.index_mut-runner.result.now stands c.in-Some.branch c.pop_front.new.self c.in-Some.ensures.items in
    let near : c.in-Some.branch.join < length c.args.state.now.joins.items = omega arith in
    let at = (there c.args.state.now.joins.items c.in-Some.branch.join c.index_mut-ended.result.now near c.index_mut-ended.ensures.value).1 in
    let few = few-parents c.args.course.now.items.items (parts_of c.args.state.now) c.requires.kept.world c.requires.kept.mirrors c.in-Some.branch.join c.index_mut-ended.result.now at in
    let e = ap length none in omega (arith, few, e)

pub returns-in_default-joined : goal.returns-in_default-joined
returns-in_default-joined c = λ w x others mirrors fit found.
    let stands = (there c.args.state.now.workers.items c.args.worker c.index_mut-runner.result.now c.requires.worker c.index_mut-runner.ensures.value).1 in
    let none = one-in-hand c.args.course.now.items.items (parts_of c.args.state.now) w mirrors c.args.worker c.index_mut-runner.result.now stands c.in-Some.branch c.pop_front.new.self c.in-Some.ensures.items in
    let only : c.index_mut-runner.result.now.hand ≡ c.in-Some.branch ∷ [] = c.in-Some.ensures.items ∙ ap (λ l. c.in-Some.branch ∷ l) none in
    let t = taken-out c.args.course.now.items.items (parts_of c.args.state.now) w mirrors fit c.args.worker c.index_mut-runner.result.now stands c.in-Some.branch only in
    let near : c.in-Some.branch.join < length c.args.state.now.joins.items = omega arith in
    let at = (there c.args.state.now.joins.items c.in-Some.branch.join c.index_mut-ended.result.now near c.index_mut-ended.ensures.value).1 in
    found-same c.args.course.now.items.items (parts_of c.args.state.now) _ w c.args.worker c.args.outcome t.x x t.others others t.is found
    (done-waits c.args.course.now.items.items (parts_of c.args.state.now) w mirrors fit c.args.worker c.index_mut-runner.result.now stands c.in-Some.branch only c.args.outcome c.requires.few _ c.poison.ensures.list _ c.poison.ensures.cells
    c.index_mut-ended.result.now _ at c.store.ensures refl refl (sym c.in_default-joined.is ∙ c.joined.ensures) none refl)

pub returns-in-Some-joined : goal.returns-in-Some-joined
returns-in-Some-joined c = λ w x others mirrors fit found.
    let stands = (there c.args.state.now.workers.items c.args.worker c.index_mut-runner.result.now c.requires.worker c.index_mut-runner.ensures.value).1 in
    let none = one-in-hand c.args.course.now.items.items (parts_of c.args.state.now) w mirrors c.args.worker c.index_mut-runner.result.now stands c.in-Some.branch c.pop_front.new.self c.in-Some.ensures.items in
    let only : c.index_mut-runner.result.now.hand ≡ c.in-Some.branch ∷ [] = c.in-Some.ensures.items ∙ ap (λ l. c.in-Some.branch ∷ l) none in
    let t = taken-out c.args.course.now.items.items (parts_of c.args.state.now) w mirrors fit c.args.worker c.index_mut-runner.result.now stands c.in-Some.branch only in
    let near : c.in-Some.branch.join < length c.args.state.now.joins.items = omega arith in
    let at = (there c.args.state.now.joins.items c.in-Some.branch.join c.index_mut-ended.result.now near c.index_mut-ended.ensures.value).1 in
    found-same c.args.course.now.items.items (parts_of c.args.state.now) _ w c.args.worker c.args.outcome t.x x t.others others t.is found
    (done-held c.args.course.now.items.items (parts_of c.args.state.now) w mirrors fit c.args.worker c.index_mut-runner.result.now stands c.in-Some.branch only c.args.outcome c.requires.few _ c.poison.ensures.list _ c.poison.ensures.cells
    c.index_mut-ended.result.now _ at c.store.ensures refl c.move_all.ensures.from c.in-Some-joined.field-0 c.in-Some-joined.ensures
    (c.move_all.ensures.into ∙ ap (λ l. l ++ c.index_mut-ended.result.now.parent) none) refl)

pub returns-in_default : goal.returns-in_default
returns-in_default c = λ w x others mirrors fit found.
    let stands = (there c.args.state.now.workers.items c.args.worker c.index_mut-runner.result.now c.requires.worker c.index_mut-runner.ensures.value).1 in
    let same : c.requires.runs.0 ≡ c.index_mut-runner.result.now = same-worker c.args.state.now.workers.items c.args.worker _ _ c.requires.runs.2 stands in
    let empty : c.index_mut-runner.result.now.hand ≡ [] = c.in_default.ensures.cases.0 in
    let full : c.requires.runs.0.hand ≡ c.requires.runs.3.branch ∷ c.requires.runs.3.more = c.requires.runs.3.hand in
    absurd (let e : c.requires.runs.3.branch ∷ c.requires.runs.3.more ≡ [] = sym full ∙ ap (λ (k : Worker). k.hand) same ∙ empty in cc)
