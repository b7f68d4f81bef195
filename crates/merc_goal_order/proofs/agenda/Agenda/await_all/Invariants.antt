use Rattle.std.proofs.Common.{◌≡◌, take}
use Rattle.merc_goal_order.specs.Agenda.{IsSound, AwaitsAgain}
use Rattle.merc_goal_order.proofs.agenda.Agenda.await_all.Given as goal

abbrev pub invariant-loop-variable : goal.invariant-loop-variable
invariant-loop-variable l = record {
  sound : IsSound l.self;
  starts : l.self.starts ≡ l.fn.self.starts;
  asked : l.self.asked ≡ l.fn.self.asked;
  awaits : AwaitsAgain l.all l.binding (take l.variable-index l.variables) l.fn.self l.self;
}
