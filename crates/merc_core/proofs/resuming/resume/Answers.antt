use Rattle.std.proofs.Common.{◌≡◌, ◌==◌, ◌<◌, false, length, refl, subst, sym, arith}
use Rattle.std.specs.Prelude.{Some, None}
use Rattle.merc_core.specs.declared.worker.Worker.{Worker}
use Rattle.merc_core.specs.Stepping.{parts_of}
use Rattle.merc_core.proofs.StandingLaws.{there}
use Rattle.merc_core.proofs.Acting.{same-worker}
use Rattle.merc_core.proofs.TakingUp.{not-empty-list, empty-list}
use Rattle.merc_core.proofs.ResumedAt.{resume-empty, resume-free, resume-past, resume-waits, resumes, resume-done}
use Rattle.merc_core.proofs.resuming.resume.Goals as goal

pub returns-then-is_empty : goal.returns-then-is_empty
returns-then-is_empty c = λ root w course mirrors fit.
    let stands = (there c.args.state.now.workers.items c.args.worker c.index.result.now c.requires.worker c.index.ensures).1 in
    (resume-empty c.args.course.now.items.items (parts_of c.args.state.now) w mirrors fit c.args.worker c.index.result.now stands (empty-list c.index.result.now.hand (sym c.if-is_empty.ensures)), refl)

pub returns-in-None : goal.returns-in-None
returns-in-None c = λ root w course mirrors fit.
    let stands = (there c.args.state.now.workers.items c.args.worker c.index.result.now c.requires.worker c.index.ensures).1 in
    let again = (there c.args.state.now.workers.items c.args.worker c.index-2.result.now c.requires.worker c.index-2.ensures).1 in
    let same : c.index-2.result.now ≡ c.index.result.now = same-worker c.args.state.now.workers.items c.args.worker _ _ again stands in (
      resume-free c.args.course.now.items.items (parts_of c.args.state.now) w mirrors fit c.args.worker c.index.result.now stands c.index.result.now.hand refl
          (not-empty-list c.index.result.now.hand (sym c.if-is_empty.ensures)) (subst (λ (k : Worker). k.held ≡ None) same c.in-None.is),
      refl,
    )

pub returns-then-number-len : goal.returns-then-number-len
returns-then-number-len c = λ root w course mirrors fit.
    let stands = (there c.args.state.now.workers.items c.args.worker c.index.result.now c.requires.worker c.index.ensures).1 in
    let again = (there c.args.state.now.workers.items c.args.worker c.index-2.result.now c.requires.worker c.index-2.ensures).1 in
    let same : c.index-2.result.now ≡ c.index.result.now = same-worker c.args.state.now.workers.items c.args.worker _ _ again stands in (
      resume-past c.args.course.now.items.items (parts_of c.args.state.now) w mirrors fit c.args.worker c.index.result.now stands c.index.result.now.hand refl
          (not-empty-list c.index.result.now.hand (sym c.if-is_empty.ensures)) c.in-Some.number (subst (λ (k : Worker). k.held ≡ Some c.in-Some.number) same c.in-Some.is) (omega arith),
      refl,
    )

pub returns-in-None-joined : goal.returns-in-None-joined
returns-in-None-joined c = λ root w course mirrors fit.
    let stands = (there c.args.state.now.workers.items c.args.worker c.index.result.now c.requires.worker c.index.ensures).1 in
    let again = (there c.args.state.now.workers.items c.args.worker c.index-2.result.now c.requires.worker c.index-2.ensures).1 in
    let same : c.index-2.result.now ≡ c.index.result.now = same-worker c.args.state.now.workers.items c.args.worker _ _ again stands in
    let near : c.in-Some.number < length c.args.state.now.joins.items = omega arith in (
      resume-waits c.args.course.now.items.items (parts_of c.args.state.now) w mirrors fit c.args.worker c.index.result.now stands c.index.result.now.hand refl
          (not-empty-list c.index.result.now.hand (sym c.if-is_empty.ensures)) c.in-Some.number (subst (λ (k : Worker). k.held ≡ Some c.in-Some.number) same c.in-Some.is)
          c.index-in-Some.result.now (there c.args.state.now.joins.items c.in-Some.number c.index-in-Some.result.now near c.index-in-Some.ensures).1 c.in-None-joined.ensures,
      refl,
    )

pub go_behind-requires : goal.go_behind-requires
go_behind-requires c =
    let first = (there c.args.state.now.workers.items c.args.worker c.index.result.now c.requires.worker c.index.ensures).1 in
    let second = (there c.args.state.now.workers.items c.args.worker c.index-2.result.now c.requires.worker c.index-2.ensures).1 in
    let stands = (there c.args.state.now.workers.items c.args.worker c.index_mut.result.now c.requires.worker c.index_mut.ensures.value).1 in
    let one : c.index.result.now ≡ c.index_mut.result.now = same-worker c.args.state.now.workers.items c.args.worker _ _ first stands in
    let two : c.index-2.result.now ≡ c.index_mut.result.now = same-worker c.args.state.now.workers.items c.args.worker _ _ second stands in
    let near : c.in-Some.number < length c.args.state.now.joins.items = omega arith in
    let r = resumes c.args.course.now.items.items (parts_of c.args.state.now) c.requires.kept.world c.requires.kept.mirrors c.requires.kept.fit c.args.worker c.index_mut.result.now stands c.index_mut.result.now.hand refl
    (not-empty-list c.index_mut.result.now.hand (subst (λ (k : Worker). (length k.hand == 0) ≡ false) one (sym c.if-is_empty.ensures)))
    c.in-Some.number (subst (λ (k : Worker). k.held ≡ Some c.in-Some.number) two c.in-Some.is)
    c.index-in-Some.result.now (there c.args.state.now.joins.items c.in-Some.number c.index-in-Some.result.now near c.index-in-Some.ensures).1 c.in-Some-joined.outcome c.in-Some-joined.ensures in
    (r.c, r.only, r.early, r.few)

pub returns-in-Some-joined : goal.returns-in-Some-joined
returns-in-Some-joined c = λ root w course mirrors fit.
    let first = (there c.args.state.now.workers.items c.args.worker c.index.result.now c.requires.worker c.index.ensures).1 in
    let second = (there c.args.state.now.workers.items c.args.worker c.index-2.result.now c.requires.worker c.index-2.ensures).1 in
    let stands = (there c.args.state.now.workers.items c.args.worker c.index_mut.result.now c.requires.worker c.index_mut.ensures.value).1 in
    let one : c.index.result.now ≡ c.index_mut.result.now = same-worker c.args.state.now.workers.items c.args.worker _ _ first stands in
    let two : c.index-2.result.now ≡ c.index_mut.result.now = same-worker c.args.state.now.workers.items c.args.worker _ _ second stands in
    let near : c.in-Some.number < length c.args.state.now.joins.items = omega arith in
    let r = resumes c.args.course.now.items.items (parts_of c.args.state.now) w mirrors fit c.args.worker c.index_mut.result.now stands c.index_mut.result.now.hand refl
    (not-empty-list c.index_mut.result.now.hand (subst (λ (k : Worker). (length k.hand == 0) ≡ false) one (sym c.if-is_empty.ensures)))
    c.in-Some.number (subst (λ (k : Worker). k.held ≡ Some c.in-Some.number) two c.in-Some.is)
    c.index-in-Some.result.now (there c.args.state.now.joins.items c.in-Some.number c.index-in-Some.result.now near c.index-in-Some.ensures).1 c.in-Some-joined.outcome c.in-Some-joined.ensures in
    resume-done c.args.course.now.items.items (parts_of c.args.state.now) w mirrors fit c.args.worker c.index_mut.result.now stands c.in-Some.number c.index-in-Some.result.now c.in-Some-joined.outcome r _
    c.go_behind.ensures.hand c.go_behind.ensures.held c.go_behind.ensures.list
