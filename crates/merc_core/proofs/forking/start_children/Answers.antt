use Rattle.std.proofs.Common.{◌≡◌, ◌∙◌, ◌++◌, [], ◌∷◌, length, refl, sym, ap, subst, arith, ◌+◌}
use Rattle.std.proofs.Math.ListN.{set}
use Rattle.std.specs.Prelude.{vec_capacity}
use Rattle.std.specs.Ordering.{nat_cmp}
use Rattle.std.specs.BTreeMap.{get}
use Rattle.merc_core.specs.Forking.{born_from, past_scripts}
use Rattle.merc_core.specs.Stepping.{parts_of, RunsNext}
use Rattle.merc_core.specs.declared.worker.Worker.{Worker}
use Rattle.merc_core.proofs.StandingLaws.{there}
use Rattle.merc_core.proofs.Acting.{same-worker}
use Rattle.merc_core.proofs.Simple.{hand-room}
use Rattle.merc_core.proofs.ForkRights.{rights-few}
use Rattle.merc_core.proofs.ForkParts.{length-born}
use Rattle.merc_core.proofs.Forks.{forks, fork-room, row-room, joins-room, fork-done}
use Rattle.merc_core.proofs.forking.start_children.Goals as goal

pub bear-born-requires-clause-branches : goal.bear-born-requires-clause-branches
bear-born-requires-clause-branches c =
    let r = fork-room c.args.course.now.items.items (parts_of c.args.state.now) c.requires.kept.world c.requires.kept.mirrors c.requires.kept.fit c.args.worker c.requires.runs.0 c.requires.runs.2 c.args.fork.now
    (forks c.args.course.now.items.items (parts_of c.args.state.now) c.requires.kept.world c.requires.kept.mirrors c.requires.kept.fit c.args.worker c.requires.runs.0 c.requires.runs.2 c.args.fork.now c.requires.runs.1 c.requires.runs.3 c.requires.runs.4) in
    r.0

pub bear-born-requires-clause-rights : goal.bear-born-requires-clause-rights
bear-born-requires-clause-rights c =
    let r = fork-room c.args.course.now.items.items (parts_of c.args.state.now) c.requires.kept.world c.requires.kept.mirrors c.requires.kept.fit c.args.worker c.requires.runs.0 c.requires.runs.2 c.args.fork.now
    (forks c.args.course.now.items.items (parts_of c.args.state.now) c.requires.kept.world c.requires.kept.mirrors c.requires.kept.fit c.args.worker c.requires.runs.0 c.requires.runs.2 c.args.fork.now c.requires.runs.1 c.requires.runs.3 c.requires.runs.4) in
    let e = r.2 in let k = rights-few c.args.fork.now.cells c.args.fork.now.moves 1 c.args.fork.now.children in omega (arith, e, k)

pub take_outcomes-outcomes-requires-clause-some : goal.take_outcomes-outcomes-requires-clause-some
take_outcomes-outcomes-requires-clause-some c =
    let r = fork-room c.args.course.now.items.items (parts_of c.args.state.now) c.requires.kept.world c.requires.kept.mirrors c.requires.kept.fit c.args.worker c.requires.runs.0 c.requires.runs.2 c.args.fork.now
    (forks c.args.course.now.items.items (parts_of c.args.state.now) c.requires.kept.world c.requires.kept.mirrors c.requires.kept.fit c.args.worker c.requires.runs.0 c.requires.runs.2 c.args.fork.now c.requires.runs.1 c.requires.runs.3 c.requires.runs.4) in
    let e = r.1 in let k = ap length c.bear-born.ensures.outcomes in omega (arith, e, k)

pub take_children-requires-clause-some : goal.take_children-requires-clause-some
take_children-requires-clause-some c =
    let r = fork-room c.args.course.now.items.items (parts_of c.args.state.now) c.requires.kept.world c.requires.kept.mirrors c.requires.kept.fit c.args.worker c.requires.runs.0 c.requires.runs.2 c.args.fork.now
    (forks c.args.course.now.items.items (parts_of c.args.state.now) c.requires.kept.world c.requires.kept.mirrors c.requires.kept.fit c.args.worker c.requires.runs.0 c.requires.runs.2 c.args.fork.now c.requires.runs.1 c.requires.runs.3 c.requires.runs.4) in
    let e = r.3 in let k = ap length c.bear-born.ensures.born in
    let l = length-born c.args.course.now.past.items c.len-number.result c.args.fork.now.cells c.args.fork.now.moves 1 c.place_behind-place.result c.args.fork.now.children in omega (arith, e, k, l)

pub place_behind-place-requires : goal.place_behind-place-requires
place_behind-place-requires c =
    let stands = (there c.args.state.now.workers.items c.args.worker c.index_mut-runner.result.now c.requires.worker c.index_mut-runner.ensures.value).1 in
    let same : c.requires.runs.0 ≡ c.index_mut-runner.result.now = same-worker c.args.state.now.workers.items c.args.worker _ _ c.requires.runs.2 stands in
    let h = hand-room c.args.course.now.items.items (parts_of c.args.state.now) c.requires.kept.world c.requires.kept.mirrors c.requires.kept.fit c.args.worker c.requires.runs.0 c.requires.runs.2 c.requires.runs.1 c.requires.runs.3 c.requires.kept.course.small in
    (h.0, sym (ap (λ (w : Worker). w.hand) same) ∙ h.1, h.2)

pub move_all-requires : goal.move_all-requires
move_all-requires c =
    let stands = (there c.args.state.now.workers.items c.args.worker c.index_mut-runner.result.now c.requires.worker c.index_mut-runner.ensures.value).1 in
    let same : c.requires.runs.0 ≡ c.index_mut-runner.result.now = same-worker c.args.state.now.workers.items c.args.worker _ _ c.requires.runs.2 stands in
    let f = forks c.args.course.now.items.items (parts_of c.args.state.now) c.requires.kept.world c.requires.kept.mirrors c.requires.kept.fit c.args.worker c.requires.runs.0 c.requires.runs.2 c.args.fork.now c.requires.runs.1 c.requires.runs.3 c.requires.runs.4 in
    let a = ap (λ (w : Worker). length w.hand) same in let b = ap length f.acts.only in let e = ap length c.new-parent.ensures in omega (arith, a, b, e)

pub take_children-requires-clause-room : goal.take_children-requires-clause-room
take_children-requires-clause-room c =
    let stands = (there c.args.state.now.workers.items c.args.worker c.index_mut-runner.result.now c.requires.worker c.index_mut-runner.ensures.value).1 in
    let same : c.requires.runs.0 ≡ c.index_mut-runner.result.now = same-worker c.args.state.now.workers.items c.args.worker _ _ c.requires.runs.2 stands in
    let r = row-room c.args.course.now.items.items (parts_of c.args.state.now) c.requires.kept.world c.requires.kept.mirrors c.requires.kept.fit c.args.worker c.requires.runs.0 c.requires.runs.2 c.args.fork.now
    (forks c.args.course.now.items.items (parts_of c.args.state.now) c.requires.kept.world c.requires.kept.mirrors c.requires.kept.fit c.args.worker c.requires.runs.0 c.requires.runs.2 c.args.fork.now c.requires.runs.1 c.requires.runs.3 c.requires.runs.4) in
    let a = ap (λ (w : Worker). length w.list) same in
    let l = length-born c.args.course.now.past.items c.len-number.result c.args.fork.now.cells c.args.fork.now.moves 1 c.place_behind-place.result c.args.fork.now.children in
    let k = ap length c.bear-born.ensures.born in omega (arith, r, a, l, k)

pub take_outcomes-outcomes-requires-clause-room : goal.take_outcomes-outcomes-requires-clause-room
take_outcomes-outcomes-requires-clause-room c =
    let f = forks c.args.course.now.items.items (parts_of c.args.state.now) c.requires.kept.world c.requires.kept.mirrors c.requires.kept.fit c.args.worker c.requires.runs.0 c.requires.runs.2 c.args.fork.now c.requires.runs.1 c.requires.runs.3 c.requires.runs.4 in
    let a = f.many in let b = f.fits.3 in omega (arith, a, b)

pub push_reserved-requires : goal.push_reserved-requires
push_reserved-requires c =
    let r = joins-room c.args.course.now.items.items (parts_of c.args.state.now) c.requires.kept.world c.requires.kept.mirrors c.requires.kept.fit c.args.worker c.requires.runs.0 c.requires.runs.2 c.args.fork.now
    (forks c.args.course.now.items.items (parts_of c.args.state.now) c.requires.kept.world c.requires.kept.mirrors c.requires.kept.fit c.args.worker c.requires.runs.0 c.requires.runs.2 c.args.fork.now c.requires.runs.1 c.requires.runs.3 c.requires.runs.4) in omega (arith, r)

pub returns : goal.returns
returns c = λ root w course mirrors fit.
    let stands = (there c.args.state.now.workers.items c.args.worker c.index_mut-runner.result.now c.requires.worker c.index_mut-runner.ensures.value).1 in
    let same : c.requires.runs.0 ≡ c.index_mut-runner.result.now = same-worker c.args.state.now.workers.items c.args.worker _ _ c.requires.runs.2 stands in
    let runs = subst (λ (k : Worker). RunsNext c.args.course.now.items.items k c.requires.runs.1) same c.requires.runs.3 in
    let f = forks c.args.course.now.items.items (parts_of c.args.state.now) w mirrors fit c.args.worker c.index_mut-runner.result.now stands c.args.fork.now c.requires.runs.1 runs c.requires.runs.4 in
    let place : c.place_behind-place.result ≡ f.c.at + 1 = c.place_behind-place.ensures f.c f.acts.only in
    let hand : c.move_all.new.into ≡ f.c ∷ [] = c.move_all.ensures.into ∙ ap (λ l. l ++ c.index_mut-runner.result.now.hand) c.new-parent.ensures ∙ f.acts.only in
    let wanted = rights-few c.args.fork.now.cells c.args.fork.now.moves 1 c.args.fork.now.children in
    let rights = c.bear-born.ensures.rights in
    fork-done c.args.course.now.items.items (parts_of c.args.state.now) w mirrors fit c.args.worker c.index_mut-runner.result.now stands c.args.course.now.past.items root course c.args.fork.now f c.take_children.new.self c.take_children.ensures.held c.bear-born.result
    (c.bear-born.ensures.born ∙ ap (λ p. born_from c.args.course.now.past.items c.len-number.result c.args.fork.now.cells c.args.fork.now.moves 1 p c.args.fork.now.children []) place
    ∙ ap (λ i. born_from c.args.course.now.past.items i c.args.fork.now.cells c.args.fork.now.moves 1 (f.c.at + 1) c.args.fork.now.children []) (omega arith))
    c.take_children.ensures.hand c.take_children.ensures.list
    (record { limit = c.args.fork.now.limit; outcomes = c.take_outcomes-outcomes.result; parent = c.go_behind_fork.new.list })
    (c.go_behind_fork.ensures f.c [] hand
    ∙ ap (λ p. (record f.c { at = p }) ∷ []) (c.past_scripts.ensures ∙ ap (λ p. past_scripts c.args.course.now.past.items p c.args.fork.now.children) place))
    refl c.take_outcomes-outcomes.ensures.outcomes
    (record {
      workers = set c.args.state.now.workers.items c.args.worker c.take_children.new.self;
      cells = λ cell. get nat_cmp c.args.state.now.cells cell;
      joins = c.push_reserved.new.self.items;
      room = vec_capacity c.push_reserved.new.self;
      branches = c.bear-born.new.spare.branches;
      outcomes = c.take_outcomes-outcomes.new.spare;
      rights = c.bear-born.new.spare.rights;
    }) refl refl c.push_reserved.ensures.items (let e = c.push_reserved.ensures.capacity in omega (arith, e))
    c.bear-born.ensures.branches (let e = c.take_outcomes-outcomes.ensures.spare in let k = ap length c.bear-born.ensures.outcomes in omega (arith, e, k))
    (omega (arith, wanted, rights)) (omega (arith, rights))
