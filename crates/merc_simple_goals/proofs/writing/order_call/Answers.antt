use Rattle.std.proofs.Common.{◌∙◌, refl, sym}
use Rattle.merc_order.specs.Spelt.{replaced, tested_places, written}
use Rattle.merc_simple_goals.proofs.Putting.{after_looking, call_gives}
use Rattle.merc_simple_goals.proofs.writing.order_call.Goals as goal

pub returns-in_ok-put_call-in-Some : goal.returns-in_ok-put_call-in-Some
returns-in_ok-put_call-in-Some c = λ total all same.
    let arguments = c.args.arguments.now in
    let places = c.places_at-places.result.now in
    let tests = c.deref.result.now in
    call_gives total all c.args.predicate c.in-Some.mode arguments c.args.modes.now _ places tests
    (replaced c.args.written.now.fresh arguments tests) (written places arguments tests) (tested_places arguments tests) c.args.frame.outputs c.args.frame.span c.args.written.now c.put_call.new.written
    same c.in-Some.ensures c.places_at-places.ensures (c.deref.ensures.value ∙ c.in_ok-tests-in-Some.ensures.tests) refl refl refl
    (after_looking _ _ c.args.written.now _ c.call_tested.new.seen (c.in_ok-tests-in-Some.ensures.cleared ∙ sym c.requires) c.in_ok-put_call-in-Some.ensures)
