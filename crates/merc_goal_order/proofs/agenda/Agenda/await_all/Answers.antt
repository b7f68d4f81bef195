use Rattle.std.proofs.Common.{◌∙◌, take, slice_index_or, ap, sym, subst, refl, arith}
use Rattle.merc_simple_goals.specs.Places.{places_within}
use Rattle.merc_goal_order.specs.Agenda.{AwaitsAgain}
use Rattle.merc_goal_order.proofs.Awaiting.{none_more, item_is, take_item, start_is, variables_more}
use Rattle.merc_goal_order.proofs.agenda.Agenda.await_all.Goals as goal

pub loop-variable-init : goal.loop-variable-init
loop-variable-init c = record { sound = c.requires.sound; starts = refl; asked = refl; awaits = none_more c.args.all.now c.args.binding c.args.self.now }

pub loop-variable-preserved : goal.loop-variable-preserved
loop-variable-preserved c =
    let i = c.loop-variable.invariant in
    let start = c.args.self.now in
    let variables = c.args.variables.now in
    let index = c.loop-variable.variable-index in
    let first = ap (λ s. s.place) (start_is start.starts.items 0 c.index.result.now (omega (arith, c.requires.sound.room)) c.index.ensures) in
    let end = ap (λ s. s.place) (start_is start.starts.items start.asked c.index-2.result.now c.requires.sound.room c.index-2.ensures) in
    record {
      sound = c.await_places.ensures.sound;
      starts = c.await_places.ensures.starts ∙ i.starts;
      asked = c.await_places.ensures.asked ∙ i.asked;
      awaits = subst (λ l. AwaitsAgain c.args.all.now c.args.binding l start c.await_places.new.self) (sym (take_item variables index c.loop-variable-test.true))
          (variables_more c.args.all.now c.args.binding (slice_index_or variables index 0) c.index.result.now.place c.index-2.result.now.place (take index variables) c.within.result.now start c.loop-variable.self
          c.await_places.new.self i.awaits c.in_ok-await_places.ensures.awaits
          (c.within.ensures ∙ ap (λ v. places_within c.index.result.now.place c.index-2.result.now.place v c.args.all.now) (item_is variables index c.variable-item.result c.loop-variable-test.true c.variable-item.is)) i.sound i.starts i.asked c.await_places.ensures.asked first end);
    }
