use Rattle.std.proofs.Common.{◌≡◌, ◌+◌, ◌<◌, ◌∙◌, suc, take, slice_index_or, ap, sym, subst, refl, arith}
use Rattle.merc_goal_order.specs.Agenda.{Holds, IsSound, AwaitsPlaces}
use Rattle.merc_goal_order.specs.declared.agenda.Agenda.{Agenda}
use Rattle.merc_goal_order.proofs.Awaiting.{take_item, start_is, places_more, place_own, place_other, put_below, put_more, put_there}
use Rattle.merc_goal_order.proofs.agenda.Agenda.await_places.Goals as goal
use Rattle.merc_goal_order.proofs.agenda.Agenda.await_places.Goals.{then-place-own+in_ok-insert, else-place-own+else-next-place}

pub loop-place-preserved : goal.loop-place-preserved
loop-place-preserved c =
    let i = c.loop-place.invariant in
    let start = c.args.self.now in
    let now = c.loop-place.self in
    let places = c.args.places.now in
    let index = c.loop-place.place-index in
    let place = slice_index_or places index 0 in
    let longer = take_item places index c.loop-place-test.true in
    elim c.if-place-own.branch [
      | then-place-own+in_ok-insert w ↦
          let key = w.goal_at-index.result in
          let new : Agenda = record { starts = now.starts; asked = now.asked; again = w.insert.new.self } in
          let updates = w.in_ok-insert.ensures.updates.0 in
          record {
            sound = subst (λ a. IsSound a) (sym w.self-is)
                (record { room = i.sound.room; below = put_below now.again.keys w.insert.new.self.keys key now.asked updates i.sound.below w.goal_at-index.ensures.below });
            starts = ap (λ (a : Agenda). a.starts) w.self-is ∙ i.starts;
            asked = ap (λ (a : Agenda). a.asked) w.self-is ∙ i.asked;
            awaits = subst (λ a. AwaitsPlaces c.args.binding (take (index + 1) places) start a) (sym w.self-is)
                (subst (λ l. AwaitsPlaces c.args.binding l start new) (sym longer)
                (places_more c.args.binding place (take index places) start now new i.awaits (put_more now.again.keys w.insert.new.self.keys key now.asked updates)
                (place_other c.args.binding place key start now new i.sound i.starts refl w.goal_at-index.ensures.below w.goal_at-index.ensures.holds
                (put_there now.again.keys w.insert.new.self.keys key now.asked updates))));
          }
      | else-place-own+else-next-place w ↦
          let within : c.args.binding < now.asked = omega (arith, c.requires.binding, i.asked) in
          let one = ap (λ s. s.place) (start_is start.starts.items c.args.binding c.index.result.now (omega (arith, c.requires.binding, c.requires.sound.room)) c.index.ensures) in
          let two = ap (λ s. s.place) (start_is start.starts.items (suc c.args.binding) c.index-2.result.now (omega (arith, c.requires.binding, c.requires.sound.room))
          (subst (λ n. c.index-2.result.now ≡ slice_index_or start.starts.items n c.index-2.result.now) (let e : c.args.binding + 1 ≡ suc c.args.binding = omega arith in e) c.index-2.ensures)) in
          let own : Holds start.starts.items c.args.binding place = (omega (arith, one, w.if-place-own.false), omega (arith, two, w.if-next-place.false)) in
          record {
            sound = subst (λ a. IsSound a) (sym w.self-is) i.sound;
            starts = ap (λ (a : Agenda). a.starts) w.self-is ∙ i.starts;
            asked = ap (λ (a : Agenda). a.asked) w.self-is ∙ i.asked;
            awaits = subst (λ a. AwaitsPlaces c.args.binding (take (index + 1) places) start a) (sym w.self-is)
                (subst (λ l. AwaitsPlaces c.args.binding l start now) (sym longer)
                (places_more c.args.binding place (take index places) start now now i.awaits (λ other h. h) (place_own c.args.binding place start now i.sound i.starts within own)));
          }
    ]
