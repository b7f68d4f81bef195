use Rattle.std.proofs.Common.{◌≡◌, ◌∙◌, ℕ, BTreeSet, ap, get_or, refl}
use Rattle.merc_order.specs.Bound.{among}
use Rattle.merc_switch_choice.proofs.OrderLaws.{added}
use Rattle.merc_switch.proofs.OrderedOutputs.{more_placed, no_more_placed, all_placed}
use Rattle.merc_switch.proofs.ordering.places_of.Goals as goal
use Rattle.merc_switch.proofs.ordering.places_of.Goals.{in-Some+in_ok-insert, in_default}

pub loop-number-preserved : goal.loop-number-preserved
loop-number-preserved c = λ place.
    let numbers = c.numbers-number-items.result.now in
    let index = c.loop-number.number-index in
    let number = c.new.result in
    let is : number ≡ get_or numbers index 0 = c.new.ensures in
    let before = c.loop-number.places in
    let after = c.match-place.places in
    elim c.match-place.branch [
      | in-Some+in_ok-insert w ↦
          more_placed numbers c.args.outputs.now index number place c.loop-number-test.true is (among before.keys place) (among after.keys place) _ w.in-Some.place c.requires w.in-Some.ensures
          (ap (λ (s : BTreeSet ℕ). among s.keys place) w.places-is ∙ added _ _ w.in-Some.place w.in-Some.place place refl (w.in_ok-insert.ensures.updates.0 place)) (c.loop-number.invariant place)
      | in_default w ↦
          no_more_placed numbers c.args.outputs.now index number place c.loop-number-test.true is (among before.keys place) (among after.keys place) _ c.requires w.in_default.ensures
          (ap (λ (s : BTreeSet ℕ). among s.keys place) w.places-is) (c.loop-number.invariant place)
    ]

pub returns : goal.returns
returns c = λ place.
    all_placed c.args.variables.now c.numbers-number-items.result.now c.args.outputs.now c.loop-number.places.keys c.loop-number.number-index place c.numbers-number-items.ensures.numbers c.loop-number-test.false
    (c.loop-number.invariant place)
