use Rattle.std.proofs.Common.{◌≡◌, take}
use Rattle.merc_goal_order.specs.Agenda.{IsSound, AwaitsPlaces}
use Rattle.merc_goal_order.proofs.agenda.Agenda.await_places.Given as goal

abbrev pub invariant-loop-place : goal.invariant-loop-place
invariant-loop-place l = record {
  sound : IsSound l.self;
  starts : l.self.starts ≡ l.fn.self.starts;
  asked : l.self.asked ≡ l.fn.self.asked;
  awaits : AwaitsPlaces l.binding (take l.place-index l.places) l.fn.self l.self;
}
