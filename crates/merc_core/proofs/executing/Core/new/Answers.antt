use Rattle.std.proofs.Common.{◌∙◌, ◌*◌, ap}
use Rattle.std.specs.Prelude.{vec_capacity}
use Rattle.merc_core.specs.Stepping.{parts_of}
use Rattle.merc_core.proofs.Replays.{at-start}
use Rattle.merc_core.proofs.executing.Core.new.Goals as goal

pub invariant_of-result : goal.invariant_of-result
invariant_of-result c =
    let started = c.in_ok-course.field-0 in
    let made = at-start started.course.items.items started.course.past.items (parts_of started.state) c.args.root c.args.workers c.requires.well c.requires.some c.requires.few
    c.in_ok-course.ensures.course c.in_ok-course.ensures.state (vec_capacity c.in_ok-events.events) (c.in_ok-events.ensures.exact ∙ ap (λ n. 2 * n) (c.len.ensures ∙ started.course.items.ok.0)) in
    rw c.in_ok-events.ensures.items made
