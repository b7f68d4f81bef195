use Rattle.std.proofs.Common.{◌≡◌, ◌==◌, ◌<◌, ◌∙◌, ◌++◌, take, false, length, length-set, refl, subst, sym, ap, arith}
use Rattle.merc_core.specs.declared.worker.Worker.{Worker}
use Rattle.merc_core.specs.Stepping.{parts_of}
use Rattle.std.proofs.Math.ListN.{set}
use Rattle.merc_core.proofs.StandingLaws.{there}
use Rattle.merc_core.proofs.Acting.{same-worker}
use Rattle.merc_core.proofs.TakingUp.{steal-busy, steal-same, steal-empty, steal-done, not-empty-list, empty-list, some-worker}
use Rattle.merc_core.proofs.taking.steal.Goals as goal

pub returns-then-not-is_empty : goal.returns-then-not-is_empty
returns-then-not-is_empty c = λ root w course mirrors fit.
    let stands = (there c.args.state.now.workers.items c.args.worker c.index.result.now c.requires.worker c.index.ensures).1 in
    let victim = some-worker c.args.state.now.workers.items c.args.victim c.requires.victim in (
      steal-busy c.args.course.now.items.items (parts_of c.args.state.now) w mirrors c.args.worker c.args.victim c.index.result.now stands victim.0 victim.1
          (not-empty-list c.index.result.now.hand (sym c.if-not-is_empty.ensures)),
      refl,
    )

pub returns-then-worker-victim : goal.returns-then-worker-victim
returns-then-worker-victim c = λ root w course mirrors fit.
    let stands = (there c.args.state.now.workers.items c.args.worker c.index.result.now c.requires.worker c.index.ensures).1 in
    let victim = some-worker c.args.state.now.workers.items c.args.victim c.requires.victim in (
      steal-same c.args.course.now.items.items (parts_of c.args.state.now) w mirrors c.args.worker c.args.victim c.index.result.now stands victim.0 victim.1
          (empty-list c.index.result.now.hand (sym c.if-not-is_empty.ensures)) c.if-worker-victim.true,
      refl,
    )

pub returns-then-is_empty : goal.returns-then-is_empty
returns-then-is_empty c = λ root w course mirrors fit.
    let stands = (there c.args.state.now.workers.items c.args.worker c.index.result.now c.requires.worker c.index.ensures).1 in
    let victim = (there c.args.state.now.workers.items c.args.victim c.index-2.result.now c.requires.victim c.index-2.ensures).1 in (
      steal-empty c.args.course.now.items.items (parts_of c.args.state.now) w mirrors c.args.worker c.args.victim c.index.result.now stands c.index-2.result.now victim
          (empty-list c.index.result.now.hand (sym c.if-not-is_empty.ensures)) c.if-worker-victim.false (empty-list c.index-2.result.now.list (sym c.if-is_empty.ensures)),
      refl,
    )

pub returns : goal.returns
returns c = λ root w course mirrors fit.
    let stands = (there c.args.state.now.workers.items c.args.worker c.index.result.now c.requires.worker c.index.ensures).1 in
    let before = (there c.args.state.now.workers.items c.args.victim c.index-2.result.now c.requires.victim c.index-2.ensures).1 in
    let victim = (there c.args.state.now.workers.items c.args.victim c.index_mut.result.now c.requires.victim c.index_mut.ensures.value).1 in
    let same : c.index-2.result.now ≡ c.index_mut.result.now = same-worker c.args.state.now.workers.items c.args.victim _ _ before victim in
    let gave : Worker = record { hand = c.index_mut.result.now.hand; held = c.index_mut.result.now.held; list = c.move_first.new.from } in
    let near : c.args.worker < length (set c.args.state.now.workers.items c.args.victim gave) =
    (let e = length-set c.args.state.now.workers.items c.args.victim gave in let h = c.requires.worker in omega (arith, e, h)) in
    let stands1 = (there (set c.args.state.now.workers.items c.args.victim gave) c.args.worker c.index_mut-runner.result.now near c.index_mut-runner.ensures.value).1 in
    steal-done c.args.course.now.items.items (parts_of c.args.state.now) w mirrors c.args.worker c.args.victim c.index.result.now stands c.index_mut.result.now victim
    (empty-list c.index.result.now.hand (sym c.if-not-is_empty.ensures)) c.if-worker-victim.false
    (not-empty-list c.index_mut.result.now.list (subst (λ (k : Worker). (length k.list == 0) ≡ false) same (sym c.if-is_empty.ensures)))
    gave refl refl c.move_first.ensures.from c.index_mut-runner.result.now stands1 _
    (c.move_first.ensures.into ∙ ap (λ l. l ++ take 1 c.index_mut.result.now.list) c.new-taken.ensures) refl refl
