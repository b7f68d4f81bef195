use Rattle.std.proofs.Common.{◌-◌, ◌≤◌, ◌<◌}
use Rattle.merc_goal_order.specs.Agenda.{start_at}
use Rattle.merc_goal_order.proofs.agenda.Agenda.goal_at.Given as goal

abbrev pub invariant-loop-low : goal.invariant-loop-low
invariant-loop-low l = record {
  some : l.low < l.high;
  within : l.high ≤ l.self.asked;
  from : (start_at l.self.starts.items 0).place ≤ l.place → (start_at l.self.starts.items l.low).place ≤ l.place;
  to : l.place < (start_at l.self.starts.items l.self.asked).place → l.place < (start_at l.self.starts.items l.high).place;
}

abbrev pub decreases-loop-low : goal.decreases-loop-low
decreases-loop-low l = l.high - l.low
