use Rattle.std.proofs.Common.{◌≡◌, [], ◌∷◌, ◌++◌, sym, subst, refl, arith}
use Rattle.std.specs.Prelude.{Ok, Err, vec_capacity}
use Rattle.std.proofs.lemmas.Result.{err_from_is_err_and}
use Rattle.merc_core.specs.declared.state.State.{State}
use Rattle.merc_core.specs.Stepping.{parts_of}
use Rattle.merc_core.specs.Replaying.{Replays}
use Rattle.merc_core.proofs.Replays.{kept, unchanged, told-so, few-events, one-more, seen-more, seen-same}
use Rattle.merc_core.proofs.executing.Core.step.Goals as goal

pub happen-requires : goal.happen-requires
happen-requires c =
    let i = c.self.inside in
    record { kept = kept i.course.items.items i.course.past.items (parts_of i.state) i.events.items (vec_capacity i.events) c.self.invariant }

pub invariant_of-self : goal.invariant_of-self
invariant_of-self c =
    let i = c.self.inside in
    let same : c.happen.new.state ≡ i.state = unchanged i.course.items.items i.course.past.items (parts_of i.state) i.events.items (vec_capacity i.events) c.self.invariant c.args.event c.in_err-happen.field-0.0 i.state c.happen.new.state refl c.in_err-happen.ensures in
    subst (λ (s : State). Replays i.course.items.items i.course.past.items (parts_of s) i.events.items (vec_capacity i.events)) (sym same) c.self.invariant

pub returns-in_err-happen-clause-answer : goal.returns-in_err-happen-clause-answer
returns-in_err-happen-clause-answer c =
    let i = c.self.inside in
    let p = err_from_is_err_and c.from_residual.result c.from_residual.ensures.1 in
    rw (p.1, p.2) (told-so i.course.items.items i.course.past.items (parts_of i.state) i.events.items (vec_capacity i.events) c.self.invariant c.args.self.now c.self.view_is c.args.event i.state c.happen.new.state (Err c.in_err-happen.field-0.0) refl c.in_err-happen.ensures)

pub returns-in_err-happen-clause-err : goal.returns-in_err-happen-clause-err
returns-in_err-happen-clause-err c =
    let i = c.self.inside in
    let p = err_from_is_err_and c.from_residual.result c.from_residual.ensures.1 in
    rw p.1 (seen-same i.course.items.items i.course.past.items (parts_of i.state) i.events.items (vec_capacity i.events) c.self.invariant c.args.self.now c.self.view_is i.state c.happen.new.state c.args.event c.in_err-happen.field-0.0 refl c.in_err-happen.ensures)

pub returns-in_err-happen-clause-few : goal.returns-in_err-happen-clause-few
returns-in_err-happen-clause-few c =
    let i = c.self.inside in
    few-events i.course.items.items i.course.past.items (parts_of i.state) i.events.items (vec_capacity i.events) c.self.invariant

pub push_reserved-requires : goal.push_reserved-requires
push_reserved-requires c =
    let i = c.self.inside in
    let few = few-events i.course.items.items i.course.past.items (parts_of i.state) i.events.items (vec_capacity i.events) c.self.invariant in
    let roomy = c.self.invariant.roomy in
    let same = i.events.ok.0 in
    omega (arith, few, roomy, same)

pub invariant_of-self-2 : goal.invariant_of-self-2
invariant_of-self-2 c =
    let i = c.self.inside in
    rw (c.push_reserved.ensures.items, c.push_reserved.ensures.capacity) (one-more i.course.items.items i.course.past.items (parts_of i.state) i.events.items (vec_capacity i.events) c.self.invariant i.state c.happen.new.state c.args.event refl c.in_ok-happen.ensures)

pub returns-clause-answer : goal.returns-clause-answer
returns-clause-answer c =
    let i = c.self.inside in
    told-so i.course.items.items i.course.past.items (parts_of i.state) i.events.items (vec_capacity i.events) c.self.invariant c.args.self.now c.self.view_is c.args.event i.state c.happen.new.state (Ok tt) refl c.in_ok-happen.ensures

pub returns-clause-ok : goal.returns-clause-ok
returns-clause-ok c =
    let i = c.self.inside in
    rw c.push_reserved.ensures.items (seen-more i.course.items.items i.course.past.items (parts_of i.state) i.events.items (vec_capacity i.events) c.self.invariant c.args.self.now c.self.view_is i.state c.happen.new.state c.args.event refl c.in_ok-happen.ensures)

pub returns-clause-few : goal.returns-clause-few
returns-clause-few c =
    let i = c.self.inside in
    let more = one-more i.course.items.items i.course.past.items (parts_of i.state) i.events.items (vec_capacity i.events) c.self.invariant i.state c.happen.new.state c.args.event refl c.in_ok-happen.ensures in
    rw c.push_reserved.ensures.items
    (few-events i.course.items.items i.course.past.items (parts_of c.happen.new.state) (i.events.items ++ c.args.event ∷ []) (vec_capacity i.events) more)
