use Rattle.std.proofs.Common.{◌∙◌, ap}
use Rattle.merc_order.specs.Bound.{among, are_bound}
use Rattle.merc_goal_facts.specs.Bounds.{all_behind}
use Rattle.merc_modes.proofs.Bodies.{all_bound}
use Rattle.merc_modes.proofs.ordering.are_bound_behind.Goals as goal

pub returns : goal.returns
returns c = λ modes goal are.
    c.are_bound.ensures
    ∙ ap (λ l. are_bound (among l) c.args.heads.now) (c.in_ok-bind_all.ensures ∙ ap (all_behind c.args.bound.now) c.as_slice.ensures)
    ∙ all_bound modes c.args.heads.now goal c.args.facts.now c.args.bound.now c.if-not-facts.false are
