use Rattle.std.proofs.Common.{◌∙◌, ap}
use Rattle.std.specs.Prelude.{vec_capacity}
use Rattle.merc_core.specs.Stepping.{parts_of}
use Rattle.merc_core.specs.Outcomes.{outermost_outcome}
use Rattle.merc_core.proofs.Replays.{outcome-is, whole-so, nearly-so}
use Rattle.merc_core.proofs.executing.Core.outcome.Goals as goal

pub returns-clause-outcome : goal.returns-clause-outcome
returns-clause-outcome c =
    let i = c.self.inside in
    c.outermost_outcome.ensures ∙ ap outermost_outcome c.deref.ensures.value
    ∙ outcome-is i.course.items.items i.course.past.items (parts_of i.state) i.events.items (vec_capacity i.events) c.self.invariant c.args.self.now c.self.view_is

pub returns-clause-whole : goal.returns-clause-whole
returns-clause-whole c =
    let i = c.self.inside in
    whole-so i.course.items.items i.course.past.items (parts_of i.state) i.events.items (vec_capacity i.events) c.self.invariant c.args.self.now c.self.view_is c.outermost_outcome.result
    (returns-clause-outcome c)

pub returns-clause-nearly : goal.returns-clause-nearly
returns-clause-nearly c =
    let i = c.self.inside in
    nearly-so i.course.items.items i.course.past.items (parts_of i.state) i.events.items (vec_capacity i.events) c.self.invariant c.args.self.now c.self.view_is c.outermost_outcome.result
    (returns-clause-outcome c)
