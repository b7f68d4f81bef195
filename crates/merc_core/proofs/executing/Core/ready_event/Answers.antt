use Rattle.std.proofs.Common.{◌∙◌, ap, sym}
use Rattle.std.specs.Prelude.{vec_capacity, is_some}
use Rattle.merc_core.specs.Stepping.{parts_of}
use Rattle.merc_core.specs.Replaying.{first_pop}
use Rattle.merc_core.proofs.Turns.{kept-turn}
use Rattle.merc_core.proofs.Replays.{within, turn-accepted, pops-accepted, pops-kept, pops-none}
use Rattle.merc_core.proofs.executing.Core.ready_event.Goals as goal

pub first_turn-requires-clause-within : goal.first_turn-requires-clause-within
first_turn-requires-clause-within c =
    let i = c.self.inside in
    rw c.deref.ensures.value (within i.course.items.items i.course.past.items (parts_of i.state) i.events.items (vec_capacity i.events) c.self.invariant)

pub returns-in-Some-clause-accepted : goal.returns-in-Some-clause-accepted
returns-in-Some-clause-accepted c =
    let i = c.self.inside in
    turn-accepted i.course.items.items i.course.past.items (parts_of i.state) i.events.items (vec_capacity i.events) c.self.invariant c.args.self.now c.self.view_is c.in-Some.event
    (rw (← c.deref.ensures.value) c.in-Some.ensures)

pub returns-in-Some-clause-kept : goal.returns-in-Some-clause-kept
returns-in-Some-clause-kept c = kept-turn c.self.inside.course.items.items c.deref.result.now c.in-Some.event c.in-Some.ensures

pub returns-in-None-clause-none : goal.returns-in-None-clause-none
returns-in-None-clause-none c =
    let i = c.self.inside in
    pops-none i.course.items.items i.course.past.items (parts_of i.state) i.events.items (vec_capacity i.events) c.self.invariant c.args.self.now c.self.view_is c.first_pop.result
    (rw (← c.deref.ensures.value) c.in-None.ensures) (ap (first_pop 0) (sym c.deref-in-None.ensures.value) ∙ sym c.first_pop.ensures)
    (ap is_some (sym c.outcome.ensures.outcome) ∙ sym c.if-is_some.ensures)

pub returns-in-None-clause-accepted : goal.returns-in-None-clause-accepted
returns-in-None-clause-accepted c =
    let i = c.self.inside in
    pops-accepted i.course.items.items i.course.past.items (parts_of i.state) i.events.items (vec_capacity i.events) c.self.invariant c.args.self.now c.self.view_is c.first_pop.result
    (rw (← c.deref.ensures.value) c.in-None.ensures) (ap (first_pop 0) (sym c.deref-in-None.ensures.value) ∙ sym c.first_pop.ensures)

pub returns-in-None-clause-kept : goal.returns-in-None-clause-kept
returns-in-None-clause-kept c =
    let i = c.self.inside in
    pops-kept i.course.items.items i.course.past.items (parts_of i.state) i.events.items (vec_capacity i.events) c.self.invariant c.args.self.now c.self.view_is c.first_pop.result
    (ap (first_pop 0) (sym c.deref-in-None.ensures.value) ∙ sym c.first_pop.ensures)
