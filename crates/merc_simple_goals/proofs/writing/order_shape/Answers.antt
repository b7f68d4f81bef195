use Rattle.std.proofs.Common.{◌∙◌, refl, sym}
use Rattle.merc_order.specs.Spelt.{replaced, tested_places, untested_places}
use Rattle.merc_simple_goals.proofs.Putting.{after_looking, build_gives, split_gives}
use Rattle.merc_simple_goals.proofs.writing.order_shape.Goals as goal

pub returns-then-not-is_bound : goal.returns-then-not-is_bound
returns-then-not-is_bound c = λ total modes.
    build_gives modes c.args.whole c.args.symbol c.args.arguments.now c.from_vec-parts.result c.args.frame.outputs c.args.frame.span _ _ _ c.are_bound.result c.args.written.now c.put_if.new.written c.put_if.result
    (sym c.is_bound.ensures ∙ c.if-not-is_bound.true) c.are_bound.ensures (c.from_vec-parts.ensures ∙ c.in_ok-from_slice.ensures.items) c.put_if.ensures

pub returns : goal.returns
returns c = λ total modes.
    let arguments = c.args.arguments.now in
    split_gives modes c.args.whole c.args.symbol arguments (replaced c.args.written.now.fresh arguments c.deref.result.now) (untested_places arguments c.deref.result.now) (tested_places arguments c.deref.result.now)
    c.args.frame.outputs c.args.frame.span c.deref.result.now _ _ _ c.args.written.now c.put_split.new.written (sym c.is_bound.ensures ∙ c.if-not-is_bound.false)
    (c.deref.ensures.value ∙ c.in_ok-tests.ensures.tests) refl refl refl
    (after_looking _ _ c.args.written.now _ c.tested.new.seen (c.in_ok-tests.ensures.cleared ∙ sym c.requires) c.in_ok-put_split.ensures)
