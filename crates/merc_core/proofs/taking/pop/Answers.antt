use Rattle.std.proofs.Common.{◌≡◌, ◌==◌, true, false, length, refl, subst, sym}
use Rattle.merc_core.specs.declared.worker.Worker.{Worker}
use Rattle.merc_core.specs.Stepping.{parts_of}
use Rattle.merc_core.proofs.StandingLaws.{there}
use Rattle.merc_core.proofs.Acting.{same-worker}
use Rattle.merc_core.proofs.TakingUp.{pop-busy, pop-empty, pop-done, not-empty-list, empty-list}
use Rattle.merc_core.proofs.taking.pop.Goals as goal

pub returns-then-not-is_empty : goal.returns-then-not-is_empty
returns-then-not-is_empty c = λ root w course mirrors fit.
    let stands = (there c.args.state.now.workers.items c.args.worker c.index-idle.result.now c.requires.worker c.index-idle.ensures).1 in
    (pop-busy c.args.course.now.items.items (parts_of c.args.state.now) w mirrors c.args.worker c.index-idle.result.now stands (not-empty-list c.index-idle.result.now.hand (sym c.if-not-is_empty.ensures)), refl)

pub returns-then-is_empty : goal.returns-then-is_empty
returns-then-is_empty c = λ root w course mirrors fit.
    let stands = (there c.args.state.now.workers.items c.args.worker c.index-idle.result.now c.requires.worker c.index-idle.ensures).1 in (
      pop-empty c.args.course.now.items.items (parts_of c.args.state.now) w mirrors c.args.worker c.index-idle.result.now stands
          (empty-list c.index-idle.result.now.hand (sym c.if-not-is_empty.ensures)) (empty-list c.index-idle.result.now.list (sym c.if-is_empty.ensures)),
      refl,
    )

pub returns : goal.returns
returns c = λ root w course mirrors fit.
    let idle = (there c.args.state.now.workers.items c.args.worker c.index-idle.result.now c.requires.worker c.index-idle.ensures).1 in
    let stands = (there c.args.state.now.workers.items c.args.worker c.index_mut-runner.result.now c.requires.worker c.index_mut-runner.ensures.value).1 in
    let same : c.index-idle.result.now ≡ c.index_mut-runner.result.now = same-worker c.args.state.now.workers.items c.args.worker _ _ idle stands in
    pop-done c.args.course.now.items.items (parts_of c.args.state.now) w mirrors c.args.worker c.index_mut-runner.result.now stands
    (empty-list c.index_mut-runner.result.now.hand (subst (λ (k : Worker). (length k.hand == 0) ≡ true) same (sym c.if-not-is_empty.ensures)))
    (not-empty-list c.index_mut-runner.result.now.list (subst (λ (k : Worker). (length k.list == 0) ≡ false) same (sym c.if-is_empty.ensures)))
    _ c.move_last.ensures.into c.move_last.ensures.from refl
