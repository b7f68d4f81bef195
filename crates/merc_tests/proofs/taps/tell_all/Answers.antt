-- One event more.
use Rattle.std.proofs.Common.{◌≡◌, ◌∙◌, ◌+◌, ◌<◌, List, [], ◌∷◌, ◌++◌, take, get_or, arith, ap, sym}
use Rattle.std.proofs.lemmas.List.{take_more, take_all}
use Rattle.merc_base.specs.declared.outside.TapEvent.{TapEvent}
use Rattle.merc_answers.proofs.TapLists.{taps_none, taps_both, taps_same, room_stays}
use Rattle.merc_tests.proofs.taps.tell_all.Goals as goal

pub loop-event-init : goal.loop-event-init
loop-event-init g c = taps_none _ _ c.args.taps.now.items

pub tell-requires : goal.tell-requires
tell-requires g c = record { room = room_stays _ _ _ _ _ 18446744073709551615 c.loop-event.invariant c.requires.room }

pub loop-event-preserved : goal.loop-event-preserved
loop-event-preserved g c =
    let events = c.args.events.now in
    let place = c.loop-event.event-index in
    let item = c.event-item.result in
    let more : take place events ++ item ∷ [] ≡ take (place + 1) events =
    ap (λ (event : TapEvent). take place events ++ event ∷ []) c.event-item.is ∙ sym (take_more events place item c.loop-event-test.true) in
    taps_same _ _ _ _ _ _ more (taps_both _ _ _ _ _ _ _ c.loop-event.invariant c.tell.ensures)

pub returns : goal.returns
returns g c = taps_same _ _ _ _ _ _ (take_all c.loop-event.event-index c.args.events.now c.loop-event-test.false) c.loop-event.invariant
